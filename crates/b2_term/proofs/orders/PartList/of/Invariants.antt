use Rattle.std.proofs.Common.{◌≡◌, ◌≤◌, ◌++◌, drop, length}
use Rattle.b2_term.proofs.orders.PartList.of.Given as goal

-- the list so far, and what is left
abbrev pub invariant-loop-part : goal.invariant-loop-part
invariant-loop-part l = record {
  found : l.list ++ drop l.part-index l.parts ≡ l.parts;
  few : length l.list ≤ l.part-index;
}
