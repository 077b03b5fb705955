pub mod Asking
pub mod Exact
pub mod Marking
pub mod Rows
pub mod Sweeping
pub mod Turning
pub mod Whole
