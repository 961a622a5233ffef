use Rattle.std.proofs.Common.{◌≡◌, ◌≤◌, length}
use Rattle.b2_base.specs.Lexical.{capped_value}
use Rattle.b2_base.proofs.lexical.capped_value.Given as goal

abbrev pub invariant-loop-rest : goal.invariant-loop-rest
invariant-loop-rest l = record {
  value : capped_value l.cap l.value l.rest ≡ capped_value l.cap 0 l.fn.text;
  small : l.value ≤ l.cap;
}

abbrev pub decreases-loop-rest : goal.decreases-loop-rest
decreases-loop-rest l = length l.rest
