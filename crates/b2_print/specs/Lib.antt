pub mod Columns
pub mod Screen
pub mod Layout
pub mod Reading
pub mod Images
pub mod Filling
pub mod Imaged
pub mod Laws
