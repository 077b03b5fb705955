pub mod Entries
pub mod Files
pub mod Mem
pub mod Stops
