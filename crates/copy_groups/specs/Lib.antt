pub mod Laws
pub mod Retention
