use Rattle.std.proofs.Common.{◌≡◌, ◌≤◌, drop}
use Rattle.b2_pack.specs.Specification.{specified_pairs}
use Rattle.b2_pack.specs.Packing.{placed_fields, placed_from, values_code}
use Rattle.b2_pack.proofs.packing.check_values.Given as goal

abbrev pub invariant-loop-i : goal.invariant-loop-i
invariant-loop-i l = record {
  inside : l.at ≤ l.room;
  code : values_code (placed_from l.at (specified_pairs l.rest)) (drop l.i l.values) l.room ≡ values_code (placed_fields l.text) l.values l.room;
}
