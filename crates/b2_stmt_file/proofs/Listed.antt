-- Statements on data files ask for platters that the table lists for their partition, and for no other device.
use Rattle.b2_access.specs.OwnDevices.{PlannedListed}
use Rattle.b2_access.proofs.OwnDevices.{at_disk_is_listed}
use Rattle.b2_access.proofs.Working.{as_it_comes}
use Rattle.b2_stmt_file.specs.Laws.{AskedDevicesAreListed}
use Rattle.b2_stmt_file.specs.Plan.{works}
use Rattle.b2_stmt_file.proofs.Planned.{each_planned}

pub asked_are_listed : AskedDevicesAreListed
asked_are_listed devices me s =
    as_it_comes (PlannedListed devices me.part) me s (works devices me s)
    (each_planned devices me s (PlannedListed devices me.part) tt (λ p g is. tt) (λ code. tt) (λ addr a listed is legal. at_disk_is_listed devices me.part addr a listed is))
