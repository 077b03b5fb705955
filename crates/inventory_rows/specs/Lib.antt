pub use Rattle.policy_domains.specs as policy_domains
pub use Rattle.object_rows.specs.version_groups as version_groups
pub use Rattle.object_rows.specs as object_rows
pub use Rattle.pool_rows.specs.volume_rows as volume_rows
pub use Rattle.pool_rows.specs.pool_tables as pool_tables
pub use Rattle.pool_rows.specs as pool_rows
pub mod Ascending
pub mod Delays
pub mod Fresh
pub mod Items
pub mod Search
pub mod State
