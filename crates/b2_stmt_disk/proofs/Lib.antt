-- What the rows of these statements say at their bytes: LimitsRows, ScratchRows, ListRows and MoveRows. Planned has what holds of each statement as it plans and as it finishes; from there follow the laws of
-- LeftAlone, Listed and Legal, by way of HomesKept, Waits and Reached.
pub mod LimitsRows
pub mod ScratchRows
pub mod ListRows
pub mod MoveRows
pub mod Planned
pub mod HomesKept
pub mod Waits
pub mod Reached
pub mod LeftAlone
pub mod Listed
pub mod ByTable
pub mod Legal
pub mod of_devices
pub mod of_programs
