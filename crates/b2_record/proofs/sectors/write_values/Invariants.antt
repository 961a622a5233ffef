use Rattle.std.proofs.Common.{◌≡◌, ◌++◌, true, drop}
use Rattle.std.specs.List.{list_all}
use Rattle.b2_record.specs.Items.{group_bytes, is_short}
use Rattle.b2_record.proofs.sectors.write_values.Given as goal

-- what is written and what is left are all
abbrev pub invariant-loop-value : goal.invariant-loop-value
invariant-loop-value l = record {
  written : l.draft.items ++ group_bytes (drop l.value-index l.values) ≡ l.fn.draft.items ++ group_bytes l.values;
  short : list_all is_short (drop l.value-index l.values) ≡ true;
}
