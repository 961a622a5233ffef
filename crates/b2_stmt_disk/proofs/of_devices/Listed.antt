-- These statements ask for devices that the table lists for their partition, and for no other device.
use Rattle.b2_access.specs.OwnDevices.{PlannedListed}
use Rattle.b2_access.proofs.Working.{as_it_comes}
use Rattle.b2_drive.proofs.Asked.{Fits}
use Rattle.b2_stmt_disk.specs.devices.Laws.{AskedDevicesAreListed}
use Rattle.b2_stmt_disk.specs.devices.Plan.{works}
use Rattle.b2_stmt_disk.proofs.of_devices.Planned.{each_planned}

pub asked_are_listed : AskedDevicesAreListed
asked_are_listed devices me s =
    as_it_comes (PlannedListed devices me.part) me s (works devices me s)
    (each_planned devices me s (PlannedListed devices me.part) tt tt (λ code. tt) (λ a fits. Fits.listed fits))
