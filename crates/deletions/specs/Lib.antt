pub mod Discarding
pub mod Dropping
pub mod Filespaces
pub mod Volumes
