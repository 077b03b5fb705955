pub mod Doings
pub mod Left
pub mod Runs
