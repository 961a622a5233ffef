-- Each choice of the table is settled by the tokens that come next.
--
-- Lookaheads says what may stand at the front of a row's trees, and gives the tests over all rows; Computed and FarComputed run
-- these tests over the whole table. LookaheadAnswers turns a lookahead into what a text that spells it answers: `answers`.
-- Heads: trees that fit begin with one of their row's lookaheads, and what comes after an option or a repetition is not taken for
-- one of its parts (`leads`, `refused_fronts`).
-- Choice, that a statement's row is chosen by its first two tokens (`one_statement`), and Far, for the choices that look further
-- (`far_first`, `far_second`).
-- Pairs says which tokens stand side by side in a tree, and Beside that they may, and that each is a good one: `good_tree`.
pub mod Lookaheads
pub mod LookaheadAnswers
pub mod Computed
pub mod FarComputed
pub mod Heads
pub mod Pairs
pub mod Choice
pub mod Far
pub mod Beside
