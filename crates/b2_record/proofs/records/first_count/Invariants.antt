use Rattle.std.proofs.Common.{◌≡◌, ◌+◌, ◌≤◌, take, drop}
use Rattle.b2_record.specs.Items.{AllStorable}
use Rattle.b2_record.specs.Writing.{first_count}
use Rattle.b2_record.proofs.records.first_count.Given as goal

-- the values so far have room, and the rest is counted on
abbrev pub invariant-loop-value : goal.invariant-loop-value
invariant-loop-value l = record {
  counted : l.count + first_count l.used (drop l.value-index l.values) ≡ first_count 0 l.values;
  index : l.count ≡ l.value-index;
  storable : AllStorable (take l.value-index l.values);
  room : l.used ≤ 253;
}
