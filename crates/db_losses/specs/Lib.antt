pub mod Behind
pub mod Losses
pub mod Lost
