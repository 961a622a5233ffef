-- What statements at the terminal ask for may be asked for.
use Rattle.b2_access.specs.LegalPlans.{IsLegalPlan}
use Rattle.b2_access.proofs.OwnTerminal.{at_terminal_is_legal}
use Rattle.b2_access.proofs.Working.{as_it_comes}
use Rattle.b2_stmt_io.specs.Laws.{StatementsPlanLegally}
use Rattle.b2_stmt_io.specs.Plan.{works}
use Rattle.b2_stmt_io.proofs.Planned.{each_planned}

pub plans_legally : StatementsPlanLegally
plans_legally devices me s =
    as_it_comes IsLegalPlan me s (works devices me s)
    (each_planned devices me s IsLegalPlan tt tt (λ code. tt) (λ a is. at_terminal_is_legal me.term a is) (λ addr bytes after is. tt))
