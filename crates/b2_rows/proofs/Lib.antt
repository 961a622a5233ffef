-- The proofs of rows that are read, lowest first. The crates above cite `row_stands`, `goes`, `ended`, `part_shorter`,
-- `link_means`, `further_of`, `either_first`, `either_second`, and the facts of EachChain and EachOperand.
--
-- Levels: what is read with fewer levels, parentheses and repetitions is read with more; what is left is no longer.
-- Items: one reading after another, item by item. Standing: a row that is read stands item by item (`row_stands`).
-- Lists: a repetition goes on where its row begins (`goes`) and ends elsewhere (`ended`).
-- Lengths: what is left after a row that takes a byte is shorter (`part_shorter`). RowsRead: the same of a row with its items;
-- CommaLists: of lists with commas; ListEnds: trees after which nothing is put.
-- Units: a unit of a line is a row that is read. Digits and Letters: the values of numbers and names that are typed.
-- Links, ChainRows and Choices: what the rows of expressions and of lists say, over the table alone; EachChain and EachOperand
-- have the same one fact at a time, as the tactics of functions want it.
-- LineTrees and WhatFollows: the units of a line on its tree, and what follows one. NamedLines: what
-- the rows of lines from one to another say.
pub mod Levels
pub mod Items
pub mod Standing
pub mod Lists
pub mod Lengths
pub mod RowsRead
pub mod ListEnds
pub mod CommaLists
pub mod Units
pub mod Optional
pub mod Digits
pub mod Letters
pub mod Links
pub mod ChainRows
pub mod Choices
pub mod EachChain
pub mod EachOperand
pub mod LineTrees
pub mod WhatFollows
pub mod NamedLines
