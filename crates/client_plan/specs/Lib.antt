pub mod Classes
pub mod Parts
pub mod Plans
