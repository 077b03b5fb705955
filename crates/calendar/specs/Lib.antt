pub mod Dates
pub mod Meant
