pub mod Slots
pub mod Files
pub mod Loading
pub mod Moving
pub mod Laws
