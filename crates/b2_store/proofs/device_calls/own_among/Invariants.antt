use Rattle.std.proofs.Common.{◌≡◌, ◌≤◌, ◌++◌, drop, length}
use Rattle.b2_store.specs.Holders.{own_among}
use Rattle.b2_store.proofs.device_calls.own_among.Given as goal

-- those so far, and those among the ones that are left
abbrev pub invariant-loop-addr : goal.invariant-loop-addr
invariant-loop-addr g l = record {
  found : l.own ++ own_among l.who (drop l.addr-index l.addr-items) (g.S.Lookups.state l.store) ≡ own_among l.who l.addrs (g.S.Lookups.state l.store);
  few : length l.own ≤ l.addr-index;
}
