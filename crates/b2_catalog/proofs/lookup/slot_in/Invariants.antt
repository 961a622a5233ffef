use Rattle.std.proofs.Common.{◌≡◌, ◌-◌, ℕ}
use Rattle.std.specs.List.{range_with_len, find}
use Rattle.b2_platter.specs.Image.{row}
use Rattle.b2_catalog.specs.Ways.{has_name, slot_in}
use Rattle.b2_catalog.proofs.lookup.slot_in.Given as goal

abbrev pub invariant-loop-k : goal.invariant-loop-k
invariant-loop-k l =
    find (λ (k : ℕ). has_name l.name (row l.bytes k)) (range_with_len l.k (l.k-end - l.k)) ≡ slot_in l.bytes l.name l.s
