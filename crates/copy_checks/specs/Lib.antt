pub mod Copies
pub mod Looks
