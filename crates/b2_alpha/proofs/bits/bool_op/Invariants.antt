use Rattle.std.proofs.Common.{◌≡◌, ◌++◌, take, drop}
use Rattle.b2_alpha.specs.Values.{each_pair}
use Rattle.b2_alpha.specs.Bits.{byte_by, joined_by}
use Rattle.b2_alpha.proofs.bits.bool_op.Given as goal

abbrev pub invariant-loop-i : goal.invariant-loop-i
invariant-loop-i l =
    take l.i l.to ++ each_pair (byte_by l.digit) (drop l.i l.to) (drop l.i l.from) ≡ joined_by l.digit l.initial.to l.from
