pub mod Arrays
pub mod Answers
