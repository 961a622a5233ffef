use Rattle.std.proofs.Common.{◌≡◌, ◌+◌, ◌-◌, ◌%◌, ℕ, map}
use Rattle.std.specs.List.{range_with_len}
use Rattle.b2_catalog.specs.Ways.{lowest_free, place, place_along}
use Rattle.b2_progfile.proofs.saving.has_slot.Given as goal

-- the place among the sectors from here on is the place among all
abbrev pub invariant-loop-j : goal.invariant-loop-j
invariant-loop-j l =
    place_along (lowest_free l.bytes) (map (λ (j : ℕ). (l.first + j) % l.index) (range_with_len l.j (l.index - l.j))) ≡ place l.bytes l.name
