use Rattle.std.proofs.Common.{◌≡◌, ◌≤◌, length}
use Rattle.b2_pack.specs.Specification.{specified_pairs}
use Rattle.b2_pack.specs.Packing.{placed_from}
use Rattle.b2_pack.proofs.packing.next_field.Given as goal

abbrev pub invariant-loop-pair : goal.invariant-loop-pair
invariant-loop-pair l = record {
  inside : l.start ≤ l.room;
  same : placed_from l.start (specified_pairs l.rest) ≡ placed_from l.at (specified_pairs l.text);
}

abbrev pub decreases-loop-pair : goal.decreases-loop-pair
decreases-loop-pair l = length l.rest
