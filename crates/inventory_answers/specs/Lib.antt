pub use Rattle.inventory_work.specs as inventory_work
pub use Rattle.inventory_work.specs.inventory_rows as inventory_rows
pub mod Answered
pub mod Clients
pub mod Content
pub mod Held
pub mod Look
pub mod Policy
pub mod Stores
