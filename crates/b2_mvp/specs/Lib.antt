pub mod Parts
pub mod Inputs
pub mod Outputs
pub mod Groups
pub mod Top
pub mod Complete
pub mod Laws
