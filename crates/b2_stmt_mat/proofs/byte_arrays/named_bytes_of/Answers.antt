use Rattle.std.proofs.Common.{◌≤◌, ℕ, List, length, sym, subst}
use Rattle.b2_stmt_mat.proofs.ArraysThere.{few}
use Rattle.b2_stmt_mat.proofs.byte_arrays.named_bytes_of.Goals as goal

pub returns-clause-short : goal.returns-clause-short
returns-clause-short c = subst (λ (bytes : List ℕ). length bytes ≤ 65535) (sym c.first_bytes.ensures) (few 65535 c.bytes_of.result.now)
