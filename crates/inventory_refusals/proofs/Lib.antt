pub mod Changes
pub mod Users
