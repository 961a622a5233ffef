pub mod Packed
pub mod Program
pub mod Spots
pub mod Blocks
pub mod Members
pub mod Numbered
pub mod Trees
pub mod Laws
