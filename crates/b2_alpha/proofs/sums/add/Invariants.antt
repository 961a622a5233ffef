use Rattle.std.proofs.Common.{◌≡◌, ◌+◌, ◌%◌, ◌++◌, length, take, drop}
use Rattle.b2_alpha.specs.Values.{each_pair}
use Rattle.b2_alpha.specs.Sums.{aligned, bytewise_sum}
use Rattle.b2_alpha.proofs.sums.add.Given as goal

abbrev pub invariant-loop-i : goal.invariant-loop-i
invariant-loop-i l =
    take l.i l.to ++ each_pair (λ x y. (x + y) % 256) (drop l.i l.to) (drop l.i (aligned (length l.initial.to) l.from)) ≡ bytewise_sum l.initial.to l.from
