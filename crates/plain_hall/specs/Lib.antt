pub mod Kinds
pub mod Laws
pub mod Marks
pub mod Traces
