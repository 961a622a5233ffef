-- What these statements ask for may be asked for.
use Rattle.b2_access.specs.LegalPlans.{IsLegalPlan}
use Rattle.b2_access.proofs.Working.{as_it_comes}
use Rattle.b2_drive.proofs.Asked.{Fits}
use Rattle.b2_stmt_disk.specs.devices.Laws.{StatementsPlanLegally}
use Rattle.b2_stmt_disk.specs.devices.Plan.{works}
use Rattle.b2_stmt_disk.proofs.of_devices.Planned.{each_planned}

pub plans_legally : StatementsPlanLegally
plans_legally devices me s = as_it_comes IsLegalPlan me s (works devices me s) (each_planned devices me s IsLegalPlan tt tt (λ code. tt) (λ a fits. Fits.legal fits))
