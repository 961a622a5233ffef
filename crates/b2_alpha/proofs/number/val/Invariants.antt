use Rattle.std.proofs.Common.{◌≡◌, take}
use Rattle.b2_alpha.specs.Places.{number_in_base}
use Rattle.b2_alpha.proofs.number.val.Given as goal

abbrev pub invariant-loop-b : goal.invariant-loop-b
invariant-loop-b l = l.value ≡ number_in_base 256 (take l.b-index l.b-items)
