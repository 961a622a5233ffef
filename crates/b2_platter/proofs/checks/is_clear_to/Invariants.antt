use Rattle.std.proofs.Common.{◌≡◌, ◌+◌, ◌-◌, ◌%◌, ℕ, map}
use Rattle.std.specs.List.{range_with_len}
use Rattle.b2_platter.specs.Image.{has_free, cyclic_from, is_clear_to}
use Rattle.b2_platter.proofs.checks.is_clear_to.Given as goal

abbrev pub invariant-loop-j : goal.invariant-loop-j
invariant-loop-j l =
    is_clear_to (has_free l.bytes) l.own (map (λ (j : ℕ). (l.first + j) % l.index) (range_with_len l.j (l.index - l.j)))
    ≡ is_clear_to (has_free l.bytes) l.own (cyclic_from l.index l.first)
