pub mod Beginning
pub mod Destroying
pub mod Known
pub mod Restored
