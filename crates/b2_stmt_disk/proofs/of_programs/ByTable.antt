-- A statement plans by the platters that the table lists for its partition, and by nothing else of it.
use Rattle.std.specs.Prelude.{ℕ, Bool, List}
use Rattle.std.proofs.Common.{ap}
use Rattle.b2_stmt_disk.specs.programs.Laws.{StatementsPlanByListed}
use Rattle.b2_stmt_disk.specs.programs.Plan.{plan_by}

pub by_table : StatementsPlanByListed
by_table ds es me s same = ap (λ (listed : List ℕ → Bool). plan_by listed me s) (λ i a. same a i)
