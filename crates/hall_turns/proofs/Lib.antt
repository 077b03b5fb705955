pub mod Alones
pub mod Backups
pub mod Lefts
pub mod Openings
pub mod Playing
pub mod Stepped
pub mod Stops
pub mod Valued
