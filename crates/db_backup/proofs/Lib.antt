pub mod Causes
pub mod Deleting
pub mod Following
pub mod Journaled
pub mod Pieced
pub mod Rows
pub mod Ways
