use Rattle.b2_stmt_disk.proofs.of_programs.ByTable.{by_table}
use Rattle.b2_stmt_disk.proofs.programs.laws.statements_plan_by_what_is_listed.Goals as goal

pub returns : goal.returns
returns c = by_table
