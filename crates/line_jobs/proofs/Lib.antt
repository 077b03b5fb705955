pub mod Answering
pub mod Exchanging
pub mod Gathering
pub mod Running
pub mod Together
