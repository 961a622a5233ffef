use Rattle.std.proofs.Common.{◌≡◌, ◌++◌, drop, map}
use Rattle.b2_store.specs.Start.{blank_row}
use Rattle.b2_store.proofs.start.printers_of.Given as goal

-- the rows so far, and those that are left
abbrev pub invariant-loop-address : goal.invariant-loop-address
invariant-loop-address l = l.rows ++ map blank_row (drop l.address-index l.addresses) ≡ map blank_row l.addresses
