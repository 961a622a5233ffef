pub mod Cutting
pub mod DigitsWidth
pub mod Fronts
pub mod Keyed
pub mod Padding
pub mod PartBits
