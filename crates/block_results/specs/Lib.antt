pub use Rattle.line_results.specs as line_results
pub use Rattle.line_jobs.specs as line_jobs
pub use Rattle.line_results.specs.command_steps as command_steps
pub mod Clauses
pub mod Ended
pub mod Filled
pub mod Gone
pub mod Jobs
pub mod Joining
pub mod Legal
pub mod Processes
pub mod Refusing
pub mod Room
pub mod Sizes
pub mod Standing
pub mod Works
