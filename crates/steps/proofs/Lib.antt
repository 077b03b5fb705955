pub mod Acknowledged
pub mod Joining
pub mod Spending
