use Rattle.std.proofs.Common.{◌≡◌, drop}
use Rattle.b2_access.specs.Reach.{to_take}
use Rattle.b2_access.specs.Stopping.{first_other, holders}
use Rattle.b2_store.proofs.stops.other_among.Given as goal

-- those that are left decide
abbrev pub invariant-loop-device : goal.invariant-loop-device
invariant-loop-device g l = first_other l.who (holders (to_take (drop l.device-index l.devices)).devices (g.S.Lookups.state l.store)) ≡ first_other l.who (holders (to_take l.devices).devices (g.S.Lookups.state l.store))
