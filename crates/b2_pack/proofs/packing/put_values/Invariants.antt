use Rattle.std.proofs.Common.{◌≡◌, ◌≤◌, drop, length, None}
use Rattle.b2_pack.specs.Specification.{specified_pairs}
use Rattle.b2_pack.specs.Packing.{placed_fields, placed_from, values_code, with_values}
use Rattle.b2_pack.proofs.packing.put_values.Given as goal

abbrev pub invariant-loop-i : goal.invariant-loop-i
invariant-loop-i l = record {
  inside : l.at ≤ length l.to;
  code : values_code (placed_from l.at (specified_pairs l.rest)) (drop l.i l.values) (length l.to) ≡ None;
  bytes : with_values (placed_from l.at (specified_pairs l.rest)) (drop l.i l.values) l.to ≡ with_values (placed_fields l.text) l.values l.fn.to;
}
