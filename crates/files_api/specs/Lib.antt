pub mod Calls
pub mod Folder
