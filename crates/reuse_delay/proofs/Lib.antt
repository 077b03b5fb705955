pub mod Causes
pub mod Members
pub mod Rows
pub mod Working
