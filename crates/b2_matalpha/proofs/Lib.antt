pub mod Receiving
pub mod Orders
pub mod MovingOn
pub mod SearchPlaces
