pub mod Answering
pub mod Asking
pub mod Causes
pub mod Filespaces
pub mod Items
pub mod Orders
pub mod Planning
pub mod Process
