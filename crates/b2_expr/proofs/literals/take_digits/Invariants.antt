use Rattle.std.proofs.Common.{◌≡◌, ◌<◌, ◌≤◌, length, take, drop}
use Rattle.b2_base.specs.Lexical.{digits_width}
use Rattle.b2_dectext.specs.Digits.{value_after}
use Rattle.b2_expr.proofs.literals.take_digits.Given as goal

abbrev pub invariant-loop-rest : goal.invariant-loop-rest
invariant-loop-rest l = record {
  small : l.number < 10000000000000;
  value : value_after l.number (take (digits_width l.rest) l.rest) ≡ value_after l.fn.start (take (digits_width l.fn.text) l.fn.text);
  left : drop (digits_width l.rest) l.rest ≡ drop (digits_width l.fn.text) l.fn.text;
  within : length l.rest ≤ length l.fn.text;
}

abbrev pub decreases-loop-rest : goal.decreases-loop-rest
decreases-loop-rest l = length l.rest
