use Rattle.std.proofs.Common.{ℕ, ◌≡◌, ◌<◌, ◌≤◌, true, length, get_or}
use Rattle.b2_alpha.specs.Values.{is_blank}
use Rattle.b2_alpha.proofs.value.value_len.Given as goal

abbrev pub invariant-loop-len : goal.invariant-loop-len
invariant-loop-len l =
    (l.len ≤ length l.a) × (0 < length l.a → 0 < l.len) × ((k : ℕ) → l.len ≤ k → k < length l.a → is_blank (get_or l.a k 0) ≡ true)

abbrev pub decreases-loop-len : goal.decreases-loop-len
decreases-loop-len l = l.len
