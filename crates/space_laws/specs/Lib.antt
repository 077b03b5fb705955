pub mod Apart
pub mod Chosen
pub mod Ending
pub mod Fitting
pub mod Holding
