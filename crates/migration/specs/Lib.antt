pub mod Marks
pub mod Migrating
pub mod Sweeping
pub mod Turns
