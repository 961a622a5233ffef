pub mod Elements
pub mod Locators
pub mod Searches
pub mod Moves
pub mod Sorts
