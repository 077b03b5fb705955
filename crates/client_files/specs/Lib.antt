pub mod Outcomes
pub mod Reading
pub mod Restoring
pub mod Sending
pub mod Tickets
pub mod Writing
