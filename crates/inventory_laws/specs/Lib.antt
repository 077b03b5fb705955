pub use Rattle.inventory_rules.specs.entries as entries
pub use Rattle.inventory_rules.specs.inventory_rows as inventory_rows
pub use Rattle.inventory_rules.specs as inventory_rules
pub mod Chains
pub mod Coming
pub mod Kept
pub mod Origins
pub mod Rising
pub mod Steady
pub mod Volumes
