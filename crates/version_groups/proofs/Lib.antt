pub use Rattle.kinds.proofs as of_kinds
pub mod Altered
pub mod Laws
pub mod Lists
pub mod Maps
