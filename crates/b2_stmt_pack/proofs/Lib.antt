-- The proofs of statements on packed fields, by what they are about.
--
-- ListRows: the items of lists with commas, one after another. ValueRows: expressions and receivers of either kind. NumberRows
-- and FieldRows have what the rows of statements say at their bytes, one fact at a time. Taking: receivers that take what is
-- theirs. Changed: what a call that changes a buffer leaves. Reached: the `@` variables that a statement changes;
-- LeftAlone: what every statement leaves. Uses: what PACK put into an array comes back out of it;
-- Elsewhere: what isn't named stays.
pub mod Changed
pub mod Taking
pub mod ListRows
pub mod ValueRows
pub mod NumberRows
pub mod FieldRows
pub mod Reached
pub mod LeftAlone
pub mod Uses
pub mod Elsewhere
