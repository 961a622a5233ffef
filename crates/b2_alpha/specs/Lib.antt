pub mod Places
pub mod Values
pub mod Bits
pub mod Sums
pub mod Relations
