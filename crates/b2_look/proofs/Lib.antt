pub mod Trimming
pub mod Lines
pub mod Ends
