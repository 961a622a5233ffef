pub mod Programs
pub mod Reading
pub mod Saving
pub mod Moving
pub mod MovingAll
pub mod Loading
pub mod Laws
