use Rattle.std.proofs.Common.{length}
use Rattle.b2_alpha.specs.Sums.{aligned}
use Rattle.b2_alpha.proofs.PlaceValues.{AllBelow}
use Rattle.b2_alpha.proofs.Carrying.{Carried, addends}
use Rattle.b2_alpha.proofs.sums.sum_bytes.Given as goal

abbrev pub invariant-loop-i : goal.invariant-loop-i
invariant-loop-i l =
    Carried 256 l.initial.to (addends l.subtract 256 (aligned (length l.initial.to) l.from)) l.to l.initial.carry l.i l.carry × AllBelow 256 l.to
