pub use Rattle.policy_domains.proofs as of_policy_domains
pub use Rattle.object_rows.proofs.of_version_groups as of_version_groups
pub use Rattle.object_rows.proofs as of_object_rows
pub use Rattle.pool_rows.proofs.of_volume_rows as of_volume_rows
pub use Rattle.pool_rows.proofs.of_pool_tables as of_pool_tables
pub mod Lowered
