pub mod Causes
pub mod Chosen
pub mod Given
pub mod Restores
pub mod Standing
