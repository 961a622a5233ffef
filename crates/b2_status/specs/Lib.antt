pub mod Status
pub mod Fetches
pub mod Puts
