pub use Rattle.log_file.proofs as of_log_file
mod Calming
mod Checkpointing
pub mod Committing
mod Counting
mod Finding
mod Formatting
pub mod Goodness
mod Installing
pub mod Leaving
mod Looking
mod Leading
mod Piecing
mod Replacing
mod Replaying
pub mod Resting
mod Rewriting
pub mod Sounding
mod Stepping
mod Telling
pub mod Unique
mod Writing
