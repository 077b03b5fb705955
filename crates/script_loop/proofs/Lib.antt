pub mod Ranges
pub mod Lines
pub mod Tallies
pub mod Underway
pub mod Pausing
