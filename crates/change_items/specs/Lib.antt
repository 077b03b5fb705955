pub mod BatchForms
pub mod ItemForms
pub mod ReasonForms
