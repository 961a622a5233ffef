use Rattle.std.proofs.Common.{ℕ, ◌≡◌, ◌<◌, ◌≤◌, true, length, get_or}
use Rattle.b2_look.specs.Rows.{is_blank}
use Rattle.b2_look.proofs.rows.without_last_blanks.Given as goal

abbrev pub invariant-loop-length : goal.invariant-loop-length
invariant-loop-length l = (l.length ≤ length l.row) × ((k : ℕ) → l.length ≤ k → k < length l.row → is_blank (get_or l.row k 0) ≡ true)

abbrev pub decreases-loop-length : goal.decreases-loop-length
decreases-loop-length l = l.length
