-- What the rows of these statements say at their bytes: ListRows, OpenRows, CloseRows and SelectRows. Planned has what holds of each statement as it
-- plans and as it finishes; from there follow the laws of LeftAlone, Listed and Legal, by way of HomesKept, Waits and Reached; and HeldOnce.
pub mod ListRows
pub mod OpenRows
pub mod CloseRows
pub mod SelectRows
pub mod Planned
pub mod HomesKept
pub mod Waits
pub mod Reached
pub mod HeldLists
pub mod HeldOnce
pub mod LeftAlone
pub mod Listed
pub mod ByTable
pub mod Legal
