pub mod Lists
pub mod Held
pub mod Taking
pub mod Freeing
pub mod Selecting
pub mod Plan
pub mod Laws
