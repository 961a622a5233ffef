use Rattle.std.proofs.Common.{◌≡◌, drop}
use Rattle.b2_stmt_disk.specs.devices.Held.{with_devices}
use Rattle.b2_stmt_disk.proofs.devices.held.add_devices.Given as goal

-- with those that are left it is all that is to be
abbrev pub invariant-loop-a : goal.invariant-loop-a
invariant-loop-a l = with_devices l.held (drop l.a-index l.addrs) ≡ with_devices l.fn.held l.addrs
