-- What the rows of these statements say at their bytes: SaveRows and LoadRows. Planned has what holds of each statement as it plans;
-- from there, and by the cases of how it finishes in HomesKept, KeptPlaces and Waits, follow the laws of LeftAlone, Listed and Legal.
pub mod SaveRows
pub mod LoadRows
pub mod Planned
pub mod HomesKept
pub mod KeptPlaces
pub mod Waits
pub mod Reached
pub mod LeftAlone
pub mod Listed
pub mod ByTable
pub mod Legal
