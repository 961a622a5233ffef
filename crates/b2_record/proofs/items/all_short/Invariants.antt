use Rattle.std.proofs.Common.{◌≡◌, drop}
use Rattle.std.specs.List.{list_all}
use Rattle.b2_record.specs.Items.{is_short}
use Rattle.b2_record.proofs.items.all_short.Given as goal

-- all are short exactly where the rest is
abbrev pub invariant-loop-value : goal.invariant-loop-value
invariant-loop-value l = list_all is_short (drop l.value-index l.values) ≡ list_all is_short l.values
