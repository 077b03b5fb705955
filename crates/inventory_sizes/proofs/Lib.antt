pub mod KeptDelays
pub mod Paths
pub mod Rooms
