pub mod HomeMask
pub mod Searching
pub mod Variables
pub mod Loops
pub mod Calls
