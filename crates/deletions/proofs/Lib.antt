pub mod Absent
pub mod Dropped
pub mod Gone
pub mod Removing
pub mod Trying
pub mod Waiting
pub mod Whole
pub mod Working
