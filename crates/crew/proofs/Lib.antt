pub mod Diaries
pub mod Fitting
pub mod Keeping
pub mod Runs
pub mod Seating
pub mod Turning
pub mod Writing
