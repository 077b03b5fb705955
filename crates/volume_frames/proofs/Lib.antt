pub mod Copies
pub mod Headers
