use Rattle.std.proofs.Common.{◌≡◌, ◌++◌, drop, length}
use Rattle.b2_store.specs.Start.{with_keys}
use Rattle.b2_store.proofs.start.platters_of.Given as goal

-- the rows so far, and those that are left; a platter is left for each address
abbrev pub invariant-loop-address : goal.invariant-loop-address
invariant-loop-address l = record {
  rows : l.rows ++ with_keys (drop l.address-index l.addresses) l.left.items ≡ with_keys l.addresses l.fn.platters.items;
  as_many : length l.left.items ≡ length (drop l.address-index l.addresses);
}
