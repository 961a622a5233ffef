-- What statements on programs on disks ask for may be asked for.
use Rattle.b2_access.specs.LegalPlans.{IsLegalPlan}
use Rattle.b2_access.proofs.Working.{as_it_comes}
use Rattle.b2_stmt_disk.specs.programs.Laws.{StatementsPlanLegally}
use Rattle.b2_stmt_disk.specs.programs.Plan.{works}
use Rattle.b2_stmt_disk.proofs.of_programs.Planned.{FitsHere, each_planned}

pub plans_legally : StatementsPlanLegally
plans_legally devices me s = as_it_comes IsLegalPlan me s (works devices me s) (each_planned devices me s IsLegalPlan tt (λ code. tt) (λ a fits stays. FitsHere.legal fits))
