pub mod Alone
pub mod Expiring
pub mod Rows
