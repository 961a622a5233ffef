-- The laws of lines, and what each rests on.
--
-- Each tree's atoms are a line (`tree_is_line`), and no two trees share their atoms (`one_tree`): LineLaws, by
-- `read_within_back`, which is `read_back` (reading.ReadBack) for the choices that settled.Choice and settled.Far settle, at the
-- text that `spells_atoms` (spelling.SpellsAtoms) and `good_tree` (settled.Beside) give. All of these hold for any number of
-- parentheses that may be open; `one_tree` takes as many as both trees need together.
-- What is listed is read back (`listed_back`): the same with spelling.SpellsSource. ReadAgain has it once more for a line of
-- atoms, in the form that the lister asks for (`typed_again`).
-- Each line spells a tree (`spells_tree`), and what is read is a line (`read_is_line`): LineLaws, by `reads_fit`
-- (reading.FittedLines), by reading.Sound and by Anywhere, that what some line allows is allowed in a line of atoms, and
-- where more parentheses may be open.
-- The units of a line are those of its tree (`tree_is_cut`), and each is a statement (`each_unit`): EachUnit, by OneUnit, that
-- a statement up to its THEN, ELSE or ERROR is read alike before other tokens and before nothing, and by Own, that a tree of
-- items without statements has no units in it.
-- UnitRows: the row that the table chooses for a unit is the one that reads it (`each_unit_by_its_row`).
-- Units has what the functions that find the units of a line and look them up rest on, and Walked the one that walks to a unit.
-- SmallRows: the row of a statement fits into the word of a span.
pub mod Anywhere
pub mod LineLaws
pub mod ReadAgain
pub mod Units
pub mod Own
pub mod OneUnit
pub mod EachUnit
pub mod UnitRows
pub mod Walked
pub mod SmallRows
