use Rattle.std.proofs.Common.{◌≡◌, length}
use Rattle.b2_pack.specs.Specification.{is_specification}
use Rattle.b2_pack.proofs.specification.is_specification.Given as goal

abbrev pub invariant-loop-rest : goal.invariant-loop-rest
invariant-loop-rest l = is_specification l.rest ≡ is_specification l.text

abbrev pub decreases-loop-rest : goal.decreases-loop-rest
decreases-loop-rest l = length l.rest
