use Rattle.std.proofs.Common.{◌≡◌, ◌-◌, true, drop}
use Rattle.std.specs.List.{list_all}
use Rattle.b2_record.specs.Items.{is_short}
use Rattle.b2_record.specs.Writing.{groups_of}
use Rattle.b2_record.proofs.records.from_sector.Given as goal

-- the rest is parted as the record is from this sector on
abbrev pub invariant-loop-number : goal.invariant-loop-number
invariant-loop-number l = record {
  groups : groups_of l.rest ≡ drop (l._number - 1) (groups_of l.values);
  short : list_all is_short l.rest ≡ true;
}
