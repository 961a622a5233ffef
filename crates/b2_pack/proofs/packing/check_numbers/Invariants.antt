use Rattle.std.proofs.Common.{◌≡◌, ◌≤◌, drop}
use Rattle.b2_pack.specs.Packing.{numbers_code}
use Rattle.b2_pack.proofs.packing.check_numbers.Given as goal

abbrev pub invariant-loop-x : goal.invariant-loop-x
invariant-loop-x l = record {
  inside : l.at ≤ l.room;
  code : numbers_code l.row l.at (drop l.x-index l.xs) l.room ≡ numbers_code l.row 0 l.xs l.room;
}
