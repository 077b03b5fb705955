pub mod Asking
pub mod Backing
pub mod Missing
