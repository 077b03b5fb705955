pub mod Entries
pub mod Times
pub mod Whole
