pub mod Free
pub mod Lists
pub mod Refused
pub mod Seen
pub mod Used
