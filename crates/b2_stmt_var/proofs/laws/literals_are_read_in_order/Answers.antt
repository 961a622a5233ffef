use Rattle.b2_stmt_var.proofs.ReadingOrder.{reads_in_order}
use Rattle.b2_stmt_var.proofs.laws.literals_are_read_in_order.Goals as goal

pub returns : goal.returns
returns c = reads_in_order
