pub mod Ahead
pub mod Clear
pub mod Each
pub mod HeldRows
pub mod Lie
pub mod Lists
pub mod Made
pub mod Seen
