pub mod Blocks
pub mod Doings
pub mod Knowing
pub mod Passes
pub mod Ran
pub mod Wrote
