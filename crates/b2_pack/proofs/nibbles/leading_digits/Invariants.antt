use Rattle.std.proofs.Common.{◌≤◌, take, drop}
use Rattle.b2_dectext.specs.Digits.{IsLeading}
use Rattle.b2_pack.specs.Nibbles.{nibbles, decimal_after}
use Rattle.b2_pack.proofs.nibbles.leading_digits.Given as goal

abbrev pub invariant-loop-done : goal.invariant-loop-done
invariant-loop-done l = record {
  few : l.leading.more ≤ l.done;
  read : IsLeading (decimal_after 0 (take l.done (drop l.start (nibbles l.bytes)))) l.leading.digits l.leading.more;
}
