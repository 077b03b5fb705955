pub mod Found
pub mod Orders
pub mod Own
pub mod Policy
pub mod Stores
