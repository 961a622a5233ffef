use Rattle.std.proofs.Common.{◌≡◌, ◌-◌, ◌≤◌, length}
use Rattle.b2_pack.specs.Unpacking.{numbers_in}
use Rattle.b2_pack.proofs.ReadingLemmas.{after_items}
use Rattle.b2_pack.proofs.unpacking.numbers_in.Given as goal

abbrev pub invariant-loop : goal.invariant-loop
invariant-loop l = record {
  inside : l.at ≤ length l.from;
  read : after_items l.xs.items (numbers_in l.row l.at (l.n - l.counter) l.from) ≡ numbers_in l.row 0 l.n l.from;
}
