pub use Rattle.inventory_rules.specs as inventory_rules
pub mod Taken
