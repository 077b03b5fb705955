pub mod Fitting
pub mod Frames
pub mod Lying
pub mod Sizes
pub mod Targets
