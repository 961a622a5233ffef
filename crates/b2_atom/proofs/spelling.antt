-- Which texts spell a list of tokens: its atoms, and its canonical source.
--
-- Both rest on what a text that begins with a token shows at its front (Begun, Lettered), and on what the first byte after a
-- token is where the next token may stand beside it (SideBySide), so that no token runs on into the next.
-- `spells_atoms` of SpellsAtoms is the statement for atoms, `spells_listed` and `spells_immediate` of SpellsSource are those
-- for the canonical source of a program's line and of an immediate line; Listed has what follows a token there.
-- Printable: each byte of the canonical source may stand in a line.
pub mod Begun
pub mod SideBySide
pub mod Lettered
pub mod SpellsAtoms
pub mod Listed
pub mod SpellsSource
pub mod Printable
