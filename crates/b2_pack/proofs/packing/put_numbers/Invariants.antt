use Rattle.std.proofs.Common.{◌≡◌, drop, length, None}
use Rattle.b2_pack.specs.Packing.{numbers_code}
use Rattle.b2_pack.proofs.PackingLemmas.{with_numbers}
use Rattle.b2_pack.proofs.packing.put_numbers.Given as goal

abbrev pub invariant-loop-x : goal.invariant-loop-x
invariant-loop-x l = record {
  code : numbers_code l.row l.at (drop l.x-index l.xs) (length l.to) ≡ None;
  bytes : with_numbers l.row l.at (drop l.x-index l.xs) l.to ≡ with_numbers l.row 0 l.xs l.fn.to;
}
