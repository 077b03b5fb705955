pub use Rattle.kinds.specs as kinds
pub mod Copies
pub mod Entries
pub mod Groups
pub mod Versions
