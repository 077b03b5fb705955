pub mod Increments
pub mod Holding
pub mod Payloads
pub mod WorkedBytes
