pub mod Desks
pub mod Holds
pub mod Kept
pub mod Ledger
pub mod Names
pub mod Past
pub mod Pool
