pub mod Causes
pub mod Closed
pub mod Hierarchies
