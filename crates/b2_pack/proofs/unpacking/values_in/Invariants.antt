use Rattle.std.proofs.Common.{◌≡◌, ◌≤◌, drop, length}
use Rattle.b2_pack.specs.Specification.{specified_pairs}
use Rattle.b2_pack.specs.Packing.{placed_fields, placed_from}
use Rattle.b2_pack.specs.Unpacking.{values_in}
use Rattle.b2_pack.proofs.ReadingLemmas.{after_items}
use Rattle.b2_pack.proofs.unpacking.values_in.Given as goal

abbrev pub invariant-loop-kind : goal.invariant-loop-kind
invariant-loop-kind l = record {
  inside : l.at ≤ length l.from;
  read : after_items l.values.items (values_in (placed_from l.at (specified_pairs l.rest)) (drop l.kind-index l.kinds) l.from) ≡ values_in (placed_fields l.text) l.kinds l.from;
}
