use Rattle.std.proofs.Common.{◌≡◌, ◌+◌, length}
use Rattle.b2_atom.specs.Leaves.{until_parenthesis}
use Rattle.b2_atom.proofs.leaves.until_parenthesis.Given as goal

abbrev pub invariant-loop-rest : goal.invariant-loop-rest
invariant-loop-rest l = record {
  count : l.count + until_parenthesis l.origin l.rest ≡ until_parenthesis l.origin l.fn.text;
  within : l.count + length l.rest ≡ length l.fn.text;
}

abbrev pub decreases-loop-rest : goal.decreases-loop-rest
decreases-loop-rest l = length l.rest
