pub use Rattle.client_files.specs as client_files
pub use Rattle.incrementals.specs as incrementals
pub use Rattle.restores.specs as restores
pub use Rattle.copy_attempts.specs as copy_attempts
pub use Rattle.copy_runs.specs as copy_runs
pub use Rattle.copy_pools.specs as copy_pools
pub use Rattle.migration.specs as migration
pub use Rattle.pool_restores.specs as pool_restores
pub use Rattle.reclamation.specs as reclamation
pub use Rattle.expiration.specs as expiration
pub use Rattle.reuse_delay.specs as reuse_delay
pub use Rattle.deletions.specs as deletions
pub use Rattle.db_backup.specs as db_backup
pub use Rattle.volume_audits.specs as volume_audits
pub use Rattle.sessions.specs as sessions
pub mod Answering
pub mod Answers
pub mod Behind
pub mod Clients
pub mod Doing
pub mod Jobs
pub mod Leaving
pub mod Lines
pub mod Owns
pub mod Reading
pub mod Trees
pub mod Writing
