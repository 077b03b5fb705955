pub use Rattle.pool_tables.specs.volume_rows as volume_rows
pub use Rattle.pool_tables.specs as pool_tables
pub mod PoolRows
pub mod Shares
pub mod Segments
pub mod Users
pub mod ClassChanges
pub mod Hierarchy
pub mod Changes
pub mod Changed
