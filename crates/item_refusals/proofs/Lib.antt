pub mod Files
pub mod Foremost
pub mod Lists
