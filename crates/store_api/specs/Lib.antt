pub mod Cause
pub mod Disk
pub mod Runs
pub mod Told
