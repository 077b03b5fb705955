pub use Rattle.copy_groups.specs as copy_groups
pub use Rattle.inventory_rows.specs as inventory_rows
pub mod ByObject
pub mod Copies
pub mod Expiring
pub mod Found
pub mod Lists
pub mod OnVolume
pub mod Rules
pub mod Volumes
