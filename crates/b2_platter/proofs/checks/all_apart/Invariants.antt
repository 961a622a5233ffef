use Rattle.std.proofs.Common.{◌≡◌, ◌-◌, ℕ}
use Rattle.std.specs.List.{range_with_len}
use Rattle.b2_platter.specs.Image.{row}
use Rattle.b2_platter.specs.Checks.{lie_apart, each_two, all_apart}
use Rattle.b2_platter.proofs.checks.all_apart.Given as goal

abbrev pub invariant-loop-j : goal.invariant-loop-j
invariant-loop-j l =
    each_two (λ (j k : ℕ). lie_apart l.layout (row l.bytes j) (row l.bytes k)) (range_with_len l.j (l.j-end - l.j)) ≡ all_apart l.layout l.bytes
