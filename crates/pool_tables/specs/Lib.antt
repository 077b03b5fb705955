pub use Rattle.volume_rows.specs.kinds as kinds
pub use Rattle.volume_rows.specs as volume_rows
pub mod Rows
pub mod Names
pub mod Scratch
pub mod RowChanges
pub mod Sums
pub mod Counted
