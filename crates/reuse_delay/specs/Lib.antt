pub mod Ready
pub mod Reusing
