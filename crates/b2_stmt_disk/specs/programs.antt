pub mod Saving
pub mod Loading
pub mod Plan
pub mod Laws
