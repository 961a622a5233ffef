use Rattle.std.proofs.Common.{◌≡◌, ◌++◌, drop, map}
use Rattle.b2_store.specs.Start.{free_row}
use Rattle.b2_store.proofs.start.add_free.Given as goal

-- the rows so far, and those that are left
abbrev pub invariant-loop-address : goal.invariant-loop-address
invariant-loop-address l = l.rows ++ map free_row (drop l.address-index l.addresses) ≡ l.fn.rows ++ map free_row l.addresses
