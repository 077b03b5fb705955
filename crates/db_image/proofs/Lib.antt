pub mod Gates
pub mod Heads
pub mod One
pub mod Opening
pub mod Reading
pub mod Shutting
pub mod Starting
pub mod Writing
