pub mod Places
pub mod Wider
