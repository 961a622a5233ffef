use Rattle.std.proofs.Common.{◌≡◌, length}
use Rattle.b2_boot.specs.Rows.{spells}
use Rattle.b2_boot.specs.Boots.{no_two_same, row_addresses}
use Rattle.b2_boot.proofs.devices.addresses_differ.Given as goal

abbrev pub invariant-loop-left : goal.invariant-loop-left
invariant-loop-left l = no_two_same spells (row_addresses l.left l.platters) ≡ no_two_same spells (row_addresses l.printers l.platters)

abbrev pub decreases-loop-left : goal.decreases-loop-left
decreases-loop-left l = length l.left
