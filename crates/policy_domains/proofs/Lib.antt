pub mod Ascends
pub mod Errors
pub mod Parts
pub mod Places
pub mod Sorted
pub mod Unbound
