pub mod Attempts
pub mod Outcomes
