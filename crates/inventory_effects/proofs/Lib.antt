pub mod CopyLaws
pub mod Delays
pub mod InsertLaws
pub mod Loops
pub mod Numbers
pub mod PutLaws
pub mod Taken
pub mod Ways
