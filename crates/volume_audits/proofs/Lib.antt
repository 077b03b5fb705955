pub mod Audited
pub mod Clean
pub mod Listed
pub mod Looked
pub mod Mended
