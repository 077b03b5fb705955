pub mod Holding
pub mod Looking
pub mod Making
pub mod Settling
pub mod Unique
pub mod Walking
