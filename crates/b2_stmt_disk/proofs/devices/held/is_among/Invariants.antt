use Rattle.std.proofs.Common.{◌≡◌, drop}
use Rattle.b2_stmt_disk.specs.devices.Held.{is_among}
use Rattle.b2_stmt_disk.proofs.devices.held.is_among.Given as goal

-- those that are left decide
abbrev pub invariant-loop-x : goal.invariant-loop-x
invariant-loop-x l = is_among l.a (drop l.x-index l.addrs) ≡ is_among l.a l.addrs
