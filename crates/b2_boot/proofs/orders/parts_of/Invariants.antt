use Rattle.std.proofs.Common.{◌≡◌, ◌≤◌, ◌++◌, drop, length, true}
use Rattle.std.specs.List.{list_all}
use Rattle.b2_boot.specs.Rows.{is_between}
use Rattle.b2_boot.proofs.orders.parts_of.Given as goal

-- those so far, and the numbers that are left
abbrev pub invariant-loop-n : goal.invariant-loop-n
invariant-loop-n l = record {
  numbers : list_all (is_between 1 16) (drop l.n-index l.numbers) ≡ true;
  found : l.list ++ drop l.n-index l.numbers ≡ l.numbers;
  few : length l.list ≤ l.n-index;
}
