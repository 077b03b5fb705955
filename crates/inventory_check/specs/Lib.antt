pub mod Asked
pub mod Laid
pub mod Rows
pub mod Together
