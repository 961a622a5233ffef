-- What the rows of these statements say at their bytes: SlotRows of the slot that they share, and OpenRows, SaveRows, LoadRows and
-- SkipRows. Planned has what holds of each statement as it plans and as it finishes; from there follow the laws of LeftAlone,
-- Listed and Legal, by way of HomesKept, Waits and Reached. Tests has what tests of numbers say.
pub mod Tests
pub mod SlotRows
pub mod SkipRows
pub mod OpenRows
pub mod SaveRows
pub mod ElementPlaces
pub mod SavedRows
pub mod SavedItems
pub mod LoadedRows
pub mod LoadRows
pub mod GoalUnits
pub mod EndRows
pub mod ShortValues
pub mod Planned
pub mod Rounded
pub mod NumbersGiven
pub mod NumbersOfExpressions
pub mod SavedNumbers
pub mod HomesKept
pub mod Waits
pub mod Reached
pub mod OpenFiles
pub mod LeftAlone
pub mod Listed
pub mod ByTable
pub mod Legal
pub mod Refusals
pub mod Ended
