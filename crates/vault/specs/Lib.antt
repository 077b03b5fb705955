pub use Rattle.log_file.specs as log_file
pub mod Files
pub mod Recovery
pub mod Images
pub mod Journals
pub mod Vaults
pub mod Openings
pub mod Pieces
