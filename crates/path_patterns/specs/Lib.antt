pub mod Patterns
pub mod Pieces
pub mod Stops
