pub mod Apart
pub mod Asking
pub mod Caused
pub mod Each
pub mod Standing
