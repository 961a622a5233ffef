use Rattle.b2_alpha.proofs.PlaceValues.{AllBelow}
use Rattle.b2_alpha.proofs.Turning.{Divided}
use Rattle.b2_alpha.proofs.bits.shift_right.Given as goal

abbrev pub invariant-loop-i : goal.invariant-loop-i
invariant-loop-i l = Divided l.right l.initial.carry l.initial.to l.to l.i l.carry × AllBelow 256 l.to
