pub mod Listing
pub mod Restoring
pub mod Volumes
