pub mod Exact
pub mod Filling
pub mod Giving
pub mod Held
pub mod Ticketed
pub mod Whole
