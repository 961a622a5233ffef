use Rattle.std.proofs.Common.{◌≡◌, drop}
use Rattle.b2_stmt_disk.specs.devices.Held.{are_listed}
use Rattle.b2_stmt_disk.proofs.devices.held.are_listed.Given as goal

-- those that are left decide
abbrev pub invariant-loop-a : goal.invariant-loop-a
invariant-loop-a l = are_listed l.devices l.who (drop l.a-index l.addrs) ≡ are_listed l.devices l.who l.addrs
