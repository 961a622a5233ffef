use Rattle.std.proofs.Common.{◌≡◌, ◌++◌, drop, map}
use Rattle.b2_sched.specs.Start.{printer_device}
use Rattle.b2_sched.proofs.start.add_printers.Given as goal

-- what is there so far, and what is left
abbrev pub invariant-loop-printer : goal.invariant-loop-printer
invariant-loop-printer l = l.devices.items ++ map printer_device (drop l.printer-index l.printers) ≡ l.fn.devices.items ++ map printer_device l.printers
