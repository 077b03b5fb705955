pub mod Choice
pub mod Comments
pub mod Fields
pub mod Reading
pub mod Rows
pub mod Values
pub mod Words
pub mod Fit
