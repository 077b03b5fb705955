pub mod Asking
pub mod Faulting
pub mod Reading
pub mod Taking
pub mod Walking
