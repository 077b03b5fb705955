pub mod Ends
pub mod Parts
pub mod Processes
pub mod Returning
pub mod Runs
pub mod Tickets
pub mod Wanting
