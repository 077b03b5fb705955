pub mod Moving
pub mod Reclaiming
pub mod Tried
