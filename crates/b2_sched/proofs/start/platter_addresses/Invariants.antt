use Rattle.std.proofs.Common.{◌≡◌, ◌++◌, drop, map}
use Rattle.b2_boot.specs.declared.boot.BootPlatter.{BootPlatter}
use Rattle.b2_sched.proofs.start.platter_addresses.Given as goal

-- what is there so far, and what is left
abbrev pub invariant-loop-p : goal.invariant-loop-p
invariant-loop-p l = l.addresses.items ++ map (λ (p : BootPlatter). p.address) (drop l.p-index l.platters) ≡ map (λ (p : BootPlatter). p.address) l.platters
