pub mod Entries
pub mod Lists
pub mod Mem
pub mod Moves
pub mod Settled
