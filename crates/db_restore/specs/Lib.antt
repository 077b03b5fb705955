pub mod Chained
pub mod Missing
pub mod Restoring
pub mod Sequential
pub mod Settling
pub mod Whole
