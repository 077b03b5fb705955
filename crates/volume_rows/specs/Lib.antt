pub use Rattle.kinds.specs as kinds
pub mod Held
pub mod Holdings
pub mod Volumes
