use Rattle.std.proofs.Common.{◌≡◌, ◌-◌, ℕ}
use Rattle.std.specs.List.{range_with_len, find}
use Rattle.b2_platter.specs.Slot.{is_free}
use Rattle.b2_platter.specs.Image.{row}
use Rattle.b2_catalog.specs.Ways.{lowest_free}
use Rattle.b2_catalog.proofs.place.lowest_free.Given as goal

abbrev pub invariant-loop-k : goal.invariant-loop-k
invariant-loop-k l =
    find (λ (k : ℕ). is_free (row l.bytes k)) (range_with_len l.k (l.k-end - l.k)) ≡ lowest_free l.bytes l.s
