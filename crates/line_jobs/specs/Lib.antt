pub mod Jobs
pub mod Lents
pub mod Ran
pub mod Rooms
pub mod Shares
