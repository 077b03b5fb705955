pub mod Chains
pub mod Looks
pub mod Making
pub mod Reads
pub mod Walks
