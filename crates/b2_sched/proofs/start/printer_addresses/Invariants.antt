use Rattle.std.proofs.Common.{◌≡◌, ◌++◌, drop, map}
use Rattle.b2_boot.specs.declared.boot.BootPrinter.{BootPrinter}
use Rattle.b2_sched.proofs.start.printer_addresses.Given as goal

-- what is there so far, and what is left
abbrev pub invariant-loop-p : goal.invariant-loop-p
invariant-loop-p l = l.addresses.items ++ map (λ (p : BootPrinter). p.address) (drop l.p-index l.printers) ≡ map (λ (p : BootPrinter). p.address) l.printers
