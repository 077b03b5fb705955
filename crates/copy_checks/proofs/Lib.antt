pub mod Framing
pub mod Seeing
pub mod Taking
