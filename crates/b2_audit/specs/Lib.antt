pub mod PartSets
pub mod Marks
pub mod Watching
pub mod LentTwice
pub mod Steps
