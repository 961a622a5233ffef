pub mod Drives
pub mod FileNames
pub mod Asking
