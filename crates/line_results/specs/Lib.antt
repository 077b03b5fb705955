pub use Rattle.command_steps.specs as command_steps
pub use Rattle.command_steps.specs.client_files as client_files
pub use Rattle.command_steps.specs.incrementals as incrementals
pub use Rattle.command_steps.specs.restores as restores
pub use Rattle.command_steps.specs.copy_attempts as copy_attempts
pub use Rattle.command_steps.specs.copy_runs as copy_runs
pub use Rattle.command_steps.specs.copy_pools as copy_pools
pub use Rattle.command_steps.specs.migration as migration
pub use Rattle.command_steps.specs.pool_restores as pool_restores
pub use Rattle.command_steps.specs.reclamation as reclamation
pub use Rattle.command_steps.specs.expiration as expiration
pub use Rattle.command_steps.specs.reuse_delay as reuse_delay
pub use Rattle.command_steps.specs.deletions as deletions
pub use Rattle.command_steps.specs.db_backup as db_backup
pub use Rattle.command_steps.specs.volume_audits as volume_audits
pub use Rattle.command_steps.specs.sessions as sessions
pub use Rattle.inventory_laws.specs as inventory_laws
pub mod Bounds
pub mod Clauses
pub mod Commands
pub mod Copied
pub mod Files
pub mod Lines
pub mod Migrating
pub mod Moving
pub mod Removing
pub mod Resting
pub mod Returning
pub mod Room
pub mod Sound
pub mod Trees
