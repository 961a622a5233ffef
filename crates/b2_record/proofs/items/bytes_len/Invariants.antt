use Rattle.std.proofs.Common.{◌≡◌, ◌+◌, length, drop}
use Rattle.b2_record.specs.Items.{group_bytes, AllStorable}
use Rattle.b2_record.proofs.items.bytes_len.Given as goal

-- the bytes so far and those of the rest are all
abbrev pub invariant-loop-value : goal.invariant-loop-value
invariant-loop-value l = record {
  counted : l.len + length (group_bytes (drop l.value-index l.values)) ≡ length (group_bytes l.values);
  storable : AllStorable (drop l.value-index l.values);
}
