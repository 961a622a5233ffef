pub mod RowPlaces
pub mod ProductSums
pub mod Making
pub mod Transposing
pub mod UnitMatrix
