use Rattle.std.proofs.Common.{length, map}
use Rattle.b2_base.specs.Lexical.{decimal_of}
use Rattle.b2_alpha.specs.Sums.{aligned}
use Rattle.b2_alpha.proofs.Carrying.{Carried, addends}
use Rattle.b2_alpha.proofs.Decimals.{AllDecimal}
use Rattle.b2_alpha.proofs.sums.sum_decimals.Given as goal

abbrev pub invariant-loop-i : goal.invariant-loop-i
invariant-loop-i l =
    Carried 100 (map decimal_of l.initial.to) (addends l.subtract 100 (map decimal_of (aligned (length l.initial.to) l.from))) (map decimal_of l.to) l.initial.carry l.i l.carry
    × AllDecimal l.to
