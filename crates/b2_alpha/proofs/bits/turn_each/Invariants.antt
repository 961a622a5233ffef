use Rattle.std.proofs.Common.{◌≡◌, ◌++◌, take, drop, map}
use Rattle.b2_alpha.specs.Bits.{turned}
use Rattle.b2_alpha.proofs.PlaceValues.{AllBelow}
use Rattle.b2_alpha.proofs.bits.turn_each.Given as goal

abbrev pub invariant-loop-b : goal.invariant-loop-b
invariant-loop-b l =
    (l.to ≡ map (turned 8 l.left) (take l.b-index l.initial.to) ++ drop l.b-index l.initial.to) × AllBelow 256 l.to
