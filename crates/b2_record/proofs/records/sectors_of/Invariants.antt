use Rattle.std.proofs.Common.{◌≡◌, ◌+◌, ◌≤◌, true, length}
use Rattle.std.specs.List.{list_all}
use Rattle.b2_record.specs.Items.{is_short, AllStorable}
use Rattle.b2_record.specs.Writing.{groups_of}
use Rattle.b2_record.proofs.Groups.{later}
use Rattle.b2_record.proofs.records.sectors_of.Given as goal

-- the sectors so far and those of the rest are all
abbrev pub invariant-loop-rest : goal.invariant-loop-rest
invariant-loop-rest l = record {
  counted : l.count + length (later l.rest) ≡ length (groups_of l.values);
  few : l.count ≤ 255;
  short : list_all is_short l.rest ≡ true;
  storable : AllStorable l.rest → AllStorable l.values;
}

abbrev pub decreases-loop-rest : goal.decreases-loop-rest
decreases-loop-rest l = length l.rest
