use Rattle.b2_alpha.proofs.PlaceValues.{AllBelow}
use Rattle.b2_alpha.proofs.Turning.{Multiplied}
use Rattle.b2_alpha.proofs.bits.shift_left.Given as goal

abbrev pub invariant-loop-i : goal.invariant-loop-i
invariant-loop-i l = Multiplied l.left l.initial.carry l.initial.to l.to l.i l.carry × AllBelow 256 l.to
