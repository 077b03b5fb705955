pub mod Backups
pub mod Deleting
pub mod Listing
pub mod Rows
pub mod Taking
