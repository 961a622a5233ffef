use Rattle.b2_stmt_disk.proofs.of_programs.Legal.{plans_legally}
use Rattle.b2_stmt_disk.proofs.programs.laws.what_is_asked_is_legal.Goals as goal

pub returns : goal.returns
returns c = plans_legally
