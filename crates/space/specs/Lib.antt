pub mod Claims
pub mod Volumes
pub mod Pieces
pub mod Placing
pub mod Lawful
