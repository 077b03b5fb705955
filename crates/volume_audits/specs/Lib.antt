pub mod Auditing
pub mod Looking
pub mod Mending
pub mod Rows
