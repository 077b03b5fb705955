pub mod Editions
pub mod Reading
pub mod Forms
pub mod FieldLaws
pub mod FormLaws
pub mod ListLaws
pub mod Gives
