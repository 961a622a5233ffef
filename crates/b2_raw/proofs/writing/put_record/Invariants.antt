use Rattle.std.proofs.Common.{◌≡◌, ℕ, ◌+◌, ◌<◌, ◌≤◌, true, drop}
use Rattle.b2_platter.specs.Checks.{IsGood}
use Rattle.b2_platter.specs.Own.{end_of, sectors_of}
use Rattle.b2_platter.specs.Edits.{put_from}
use Rattle.std.specs.List.{list_all}
use Rattle.b2_record.specs.Items.{is_short}
use Rattle.b2_record.specs.Records.{sectors_from}
use Rattle.b2_record.specs.Writing.{groups_of, record_of}
use Rattle.b2_raw.proofs.writing.put_record.Given as goal

-- the sectors that are left make the image that is wanted, and are those of the values that are left
abbrev pub invariant-loop-k : goal.invariant-loop-k
invariant-loop-k l = record {
  rest : put_from l.p (l.at + l.k) (drop l.k (record_of l.values)) ≡ put_from l.fn.p l.at (record_of l.values);
  good : IsGood l.p;
  next : l.k < l.count → sectors_from (l.k + 1) (groups_of l.rest) ≡ drop l.k (record_of l.values);
  short : list_all is_short l.rest ≡ true;
  low : end_of l.p ≤ l.at;
  high : l.at + l.count ≤ sectors_of l.p;
}
