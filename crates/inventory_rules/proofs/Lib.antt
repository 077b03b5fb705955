pub use Rattle.inventory_rows.proofs as of_inventory_rows
pub mod BareHeld
pub mod CopiedLists
pub mod HeldTurns
pub mod Journals
pub mod KeptLaws
pub mod MapValues
pub mod OwedLaws
pub mod Touched
pub mod Turns
