-- Reading by the rows of the table: what the code's walk does at each item, and that what is read and what fits are the same.
--
-- The walk: Binds has one reading after another, and what an output holds after it; Codes, that each refusal has a code from 1 to
-- 99.
-- A tree that fits is read from each text that spells its tokens: `read_back` of ReadBack, one lemma for each kind of item in
-- Complete and Branches.
-- What is read fits: `reads_fit` of FittedLines, over Fitted (parts without statements), GoodLeaves (`leaf_good`), WholeLeaves and
-- WholeNames.
-- What is read from atoms is spelled by them: `takes_line` and `ends_line` of Sound.
pub mod Binds
pub mod Codes
pub mod Complete
pub mod Branches
pub mod ReadBack
pub mod Sound
pub mod WholeLeaves
pub mod WholeNames
pub mod GoodLeaves
pub mod Fitted
pub mod FittedLines
