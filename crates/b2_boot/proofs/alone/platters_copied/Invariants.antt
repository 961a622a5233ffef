use Rattle.std.proofs.Common.{◌≡◌, ◌++◌, drop}
use Rattle.b2_boot.proofs.alone.platters_copied.Given as goal

-- the copies so far, and the platters that are left
abbrev pub invariant-loop-platter : goal.invariant-loop-platter
invariant-loop-platter l = l.copies.items ++ drop l.platter-index l.platters ≡ l.platters
