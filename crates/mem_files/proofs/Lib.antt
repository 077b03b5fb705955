pub mod Calls
pub mod Listing
pub mod Lists
pub mod Moving
pub mod Stores
