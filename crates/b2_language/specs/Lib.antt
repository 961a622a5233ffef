pub mod Wanted
pub mod Languages
pub mod Following
