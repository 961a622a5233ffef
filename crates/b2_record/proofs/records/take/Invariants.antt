use Rattle.std.proofs.Common.{◌-◌, ◌≤◌}
use Rattle.b2_record.proofs.Reading.{Reading}
use Rattle.b2_record.proofs.records.take.Given as goal

-- what was read so far, as far as a record may go
abbrev pub invariant-loop-count : goal.invariant-loop-count
invariant-loop-count l = record {
  reading : Reading l.p l.at l.values.items l.used l.count;
  room : l.used ≤ 253;
}

abbrev pub decreases-loop-count : goal.decreases-loop-count
decreases-loop-count l = l.most - l.count
