pub mod Dropped
pub mod Effects
pub mod Going
pub mod Moved
pub mod Rows
pub mod Stores
pub mod Taken
pub mod Unclaimed
