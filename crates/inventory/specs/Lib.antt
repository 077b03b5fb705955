pub mod Legal
pub mod Meaningful
pub mod Meant
