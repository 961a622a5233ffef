use Rattle.std.proofs.Common.{◌≡◌, ◌+◌, length}
use Rattle.b2_base.specs.Lexical.{digits_width}
use Rattle.b2_base.proofs.lexical.digits_width.Given as goal

abbrev pub invariant-loop-rest : goal.invariant-loop-rest
invariant-loop-rest l = record {
  count : l.count + digits_width l.rest ≡ digits_width l.fn.text;
  within : l.count + length l.rest ≡ length l.fn.text;
}

abbrev pub decreases-loop-rest : goal.decreases-loop-rest
decreases-loop-rest l = length l.rest
