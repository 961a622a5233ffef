use Rattle.std.proofs.Common.{◌∙◌}
use Rattle.b2_boot.proofs.DeviceAddresses.{none_left}
use Rattle.b2_boot.proofs.devices.addresses_differ.Goals as goal

pub returns : goal.returns
returns c = c.addresses_differ.ensures ∙ none_left c.loop-left.left.now c.args.printers.now c.args.platters.now c.in_default.len_below c.loop-left.invariant
