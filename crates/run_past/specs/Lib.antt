pub mod Before
pub mod Telling
pub mod Told
