pub mod Images
pub mod Reads
pub mod Steps
