-- What stands at one place of a text: a word, a name, a number, and all else that is typed by hand.
--
-- A word is read where it is spelled and nothing lengthens it (Longest). WordsRead says what the next word or byte of a text
-- is, and Keywords which texts don't begin with a given word.
-- A leaf, which is what is typed by hand, has its width whatever comes after it that doesn't run on: Widths for numbers, digits,
-- literals and images, Characters for hexadecimal digits, comparison signs and function names, Names for names, LineNumbers
-- for line numbers. LeavesRead puts them together: `leaf_read`, that a whole leaf is read where it stands.
-- LeafStarts and CleanLeaves say which bytes a whole leaf begins with and consists of.
pub mod Longest
pub mod WordsRead
pub mod Keywords
pub mod Widths
pub mod Names
pub mod Characters
pub mod LineNumbers
pub mod LeafStarts
pub mod LeavesRead
pub mod CleanLeaves
