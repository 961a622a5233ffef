use Rattle.std.proofs.Common.{ℕ, ◌+◌, ◌≤◌, take}
use Rattle.b2_dectext.specs.Digits.{IsLeading, value_after}
use Rattle.b2_dectext.proofs.reading.with_digits.Given as goal

abbrev pub invariant-loop-byte : goal.invariant-loop-byte
invariant-loop-byte l = record {
  few : l.leading.more ≤ l.fn.start.more + l.byte-index;
  read : (n : ℕ) → IsLeading n l.fn.start.digits l.fn.start.more → IsLeading (value_after n (take l.byte-index l.text)) l.leading.digits l.leading.more;
}
