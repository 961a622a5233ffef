-- The proofs of statements on arrays, by what they are about.
--
-- FormulaRows, RedimensionRows, ByteArrayRows and SearchRows have what the rows of statements say at their bytes, one fact at a
-- time. ArraysThere: an array that is there has a shape, its values, and no code. CellPlaces: places along rows. Written: what
-- several changes of one array come to. MadeOf: what is made, and its codes. Put: what is put into an array, among which variables it is. Reached: the `@` variables that a statement
-- changes; LeftAlone: what every statement leaves. Uses: what statements on arrays are for;
-- SortedMoves: that elements which are sorted and then moved stand in order.
pub mod FormulaRows
pub mod RedimensionRows
pub mod ByteArrayRows
pub mod SearchRows
pub mod ArraysThere
pub mod CellPlaces
pub mod Written
pub mod Put
pub mod MadeOf
pub mod Reached
pub mod LeftAlone
pub mod Uses
pub mod SortedMoves
