pub use Rattle.version_groups.specs as version_groups
pub mod Build
pub mod Changes
pub mod Filespaces
pub mod Held
pub mod HeldRows
pub mod Index
pub mod Items
pub mod Names
pub mod Places
pub mod Rows
pub mod SpaceNames
pub mod Tally
