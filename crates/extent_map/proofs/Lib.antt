pub mod FreeRuns
pub mod Marking
pub mod Members
pub mod Taking
pub mod Words
pub mod WordLists
