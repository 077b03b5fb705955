pub mod Exact
pub mod Gone
pub mod InTurn
pub mod Listed
pub mod Listing
pub mod Refused
pub mod Rows
pub mod Working
