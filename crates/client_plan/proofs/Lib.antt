pub mod Ascend
pub mod Parted
pub mod Walk
