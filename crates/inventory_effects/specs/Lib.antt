pub mod Delaying
pub mod Undoing
pub mod Volumes
