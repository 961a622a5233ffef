pub mod Layout
pub mod Slot
pub mod Image
pub mod Checks
pub mod Own
pub mod Edits
pub mod Reading
pub mod Volume
