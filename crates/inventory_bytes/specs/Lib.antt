pub mod ClientForms
pub mod Payload
pub mod PolicyForms
pub mod Segments
pub mod StoreForms
pub mod Tables
pub mod VersionForms
