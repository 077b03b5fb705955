pub mod Choosing
pub mod Claimed
pub mod Counts
pub mod Index
pub mod Sequential
pub mod Tails
pub mod Listed
pub mod Updates
