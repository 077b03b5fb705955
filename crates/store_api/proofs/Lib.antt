pub mod Bytes
pub mod Images
pub mod Pieces
pub mod Ranges
pub mod Runs
pub mod Standings
