use Rattle.std.proofs.Common.{◌≡◌, ◌≤◌, ◌++◌, drop, length}
use Rattle.b2_stmt_disk.specs.devices.Held.{without_devices}
use Rattle.b2_stmt_disk.proofs.devices.held.without_devices.Given as goal

-- those so far, and those among the ones that are left
abbrev pub invariant-loop-a : goal.invariant-loop-a
invariant-loop-a l = record {
  found : l.left ++ without_devices l.addrs (drop l.a-index l.a-items) ≡ without_devices l.addrs l.held;
  few : length l.left ≤ l.a-index;
}
