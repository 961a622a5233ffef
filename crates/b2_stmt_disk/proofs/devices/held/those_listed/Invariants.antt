use Rattle.std.proofs.Common.{◌≡◌, ◌≤◌, ◌++◌, drop, length}
use Rattle.b2_stmt_disk.specs.devices.Held.{those_listed}
use Rattle.b2_stmt_disk.proofs.devices.held.those_listed.Given as goal

-- those so far, and those among the ones that are left
abbrev pub invariant-loop-a : goal.invariant-loop-a
invariant-loop-a l = record {
  found : l.listed ++ those_listed l.devices l.who (drop l.a-index l.a-items) ≡ those_listed l.devices l.who l.held;
  few : length l.listed ≤ l.a-index;
}
