pub mod Joins
pub mod LeastLaws
pub mod Order
pub mod Utf8
