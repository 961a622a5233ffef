use Rattle.std.proofs.Common.{◌≡◌}
use Rattle.b2_text.specs.Spots.{data_in}
use Rattle.b2_text.proofs.spots.data_in.Given as goal

-- the first DATA from here on is the first of all
abbrev pub invariant-loop-unit : goal.invariant-loop-unit
invariant-loop-unit l = data_in l.unit l.line ≡ data_in l.from l.line
