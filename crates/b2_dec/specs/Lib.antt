pub mod Number
pub mod Spelling
pub mod OneWord
pub mod Rounding
pub mod Arithmetic
pub mod Lanes
pub mod Packing
pub mod Laws
