use Rattle.b2_stmt_pack.proofs.Uses.{numbers_come_back}
use Rattle.b2_stmt_pack.proofs.laws.numbers_come_back.Goals as goal

pub returns : goal.returns
returns c = numbers_come_back
