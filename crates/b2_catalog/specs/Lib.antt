pub mod Catalogue
pub mod Ways
pub mod Changes
pub mod Calls
pub mod Listing
pub mod Results
pub mod Making
