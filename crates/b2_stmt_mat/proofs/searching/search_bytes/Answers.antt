use Rattle.std.proofs.Common.{◌≤◌, ℕ, List, length, sym, subst}
use Rattle.b2_stmt_mat.proofs.ArraysThere.{few}
use Rattle.b2_stmt_mat.proofs.searching.search_bytes.Goals as goal

pub search-requires-else-is_empty-clause-short : goal.search-requires-else-is_empty-clause-short
search-requires-else-is_empty-clause-short c = subst (λ (bytes : List ℕ). length bytes ≤ 65535) (sym c.first_bytes-of.ensures) (few 65535 c.args.bytes.now)
