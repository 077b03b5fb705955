pub use Rattle.entries.specs as entries
pub use Rattle.inventory_rows.specs as inventory_rows
pub use Rattle.copy_groups.specs as copy_groups
pub use Rattle.entries.specs.change_items as change_items
pub mod Backups
pub mod Clients
pub mod Common
pub mod Copies
pub mod Facts
pub mod Halfway
pub mod Held
pub mod Journal
pub mod Kept
pub mod Ordered
pub mod Owed
pub mod Policy
pub mod Reordered
pub mod Run
pub mod Segments
pub mod Stores
pub mod Transactions
pub mod Valid
pub mod Versions
