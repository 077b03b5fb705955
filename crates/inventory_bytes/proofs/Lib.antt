pub mod ClientRows
pub mod Decoded
pub mod Filling
mod Groups
mod HeldFits
pub mod Holding
pub mod Joins
mod Left
pub mod Listed
mod Lists
pub mod PolicyRows
mod Retained
pub mod Same
pub mod Spelled
pub mod Spellings
pub mod StoreRows
pub mod Tables
pub mod WholeSize
