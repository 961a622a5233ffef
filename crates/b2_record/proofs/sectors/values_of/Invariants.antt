use Rattle.std.proofs.Common.{◌≡◌, ◌++◌, length}
use Rattle.b2_record.specs.Items.{group_bytes, AllStorable}
use Rattle.b2_record.proofs.sectors.values_of.Given as goal

-- what was read and what is left are all
abbrev pub invariant-loop-value : goal.invariant-loop-value
invariant-loop-value l = record {
  read : l.bytes ≡ group_bytes l.values.items ++ l.rest;
  storable : AllStorable l.values.items;
}

abbrev pub decreases-loop-value : goal.decreases-loop-value
decreases-loop-value l = length l.rest
