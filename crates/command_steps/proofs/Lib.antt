pub use Rattle.incrementals.proofs as of_incrementals
pub use Rattle.restores.proofs as of_restores
pub use Rattle.copy_attempts.proofs as of_copy_attempts
pub use Rattle.copy_runs.proofs as of_copy_runs
pub use Rattle.copy_pools.proofs as of_copy_pools
pub use Rattle.pool_restores.proofs as of_pool_restores
pub use Rattle.reclamation.proofs as of_reclamation
pub use Rattle.reuse_delay.proofs as of_reuse_delay
pub use Rattle.db_backup.proofs as of_db_backup
pub use Rattle.sessions.proofs as of_sessions
pub mod Answered
pub mod Changed
pub mod Looked
pub mod Pieces
pub mod Treed
pub mod Withheld
pub mod Worked
pub mod Written
