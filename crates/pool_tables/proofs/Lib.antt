pub use Rattle.volume_rows.proofs as of_volume_rows
pub mod Tables
pub mod Names
pub mod Counting
pub mod Sound
pub mod ScratchNames
pub mod Ascending
