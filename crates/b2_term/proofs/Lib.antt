pub mod Endings
pub mod Rounds
