pub mod Reading
pub mod Wholes
pub mod Encoding
pub mod OnePayload
