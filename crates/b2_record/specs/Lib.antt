pub mod Items
pub mod Records
pub mod Writing
pub mod Reading
pub mod EndSector
pub mod Asking
