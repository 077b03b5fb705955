pub mod OneObject
pub mod RowObjects
pub mod Sorting
