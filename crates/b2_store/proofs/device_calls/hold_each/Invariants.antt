use Rattle.std.proofs.Common.{◌≡◌, drop, Some}
use Rattle.b2_store.specs.Holders.{all_held}
use Rattle.b2_store.proofs.device_calls.hold_each.Given as goal

-- with those that are left it is all that is to be
abbrev pub invariant-loop-addr : goal.invariant-loop-addr
invariant-loop-addr g l = all_held (Some l.holder) (drop l.addr-index l.addrs) (g.S.Lookups.state l.store) ≡ all_held (Some l.holder) l.addrs (g.S.Lookups.state l.fn.store)
