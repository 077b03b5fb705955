pub use Rattle.pool_tables.proofs.of_volume_rows as of_volume_rows
pub use Rattle.pool_tables.proofs as of_pool_tables
pub mod Chains
pub mod Changing
pub mod Made
pub mod Reusing
