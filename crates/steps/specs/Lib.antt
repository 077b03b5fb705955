pub use Rattle.entries.specs as entries
pub use Rattle.inventory_answers.specs.inventory_rows as inventory_rows
pub use Rattle.inventory_answers.specs as inventory_answers
pub use Rattle.space.specs as space
pub mod Calls
pub mod Events
pub mod Receipts
pub mod Spent
