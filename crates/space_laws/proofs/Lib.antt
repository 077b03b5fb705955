pub mod Apart
pub mod Ends
pub mod Fits
pub mod Holding
pub mod Keys
pub mod Tails
pub mod Whole
