pub use Rattle.store_api.specs as store_api
pub mod Contents
pub mod Reading
