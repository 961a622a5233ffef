pub mod Fronts
pub mod SkippedRecords
pub mod Saved
pub mod Functions
pub mod Opened
pub mod FromFunctions
