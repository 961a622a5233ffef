-- The proofs of the language, by what they are about. `lines` has the laws, and its first page leads from each down to the
-- lemmas that it rests on; each of the others begins with such a page.
pub mod Booleans
pub mod typed
pub mod spelling
pub mod settled
pub mod reading
pub mod lines
