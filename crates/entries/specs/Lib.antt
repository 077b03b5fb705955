pub use Rattle.change_items.specs as change_items
pub mod ChangeForm
pub mod EntryForm
pub mod Meaning
pub mod NodeTags
pub mod PolicyTags
pub mod PoolTags
pub mod Tables
