pub mod Lists
pub mod Buffers
pub mod Numbers
pub mod Fields
pub mod Plan
pub mod Laws
