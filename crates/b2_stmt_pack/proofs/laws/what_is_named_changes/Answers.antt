use Rattle.b2_stmt_pack.proofs.Elsewhere.{change_what_is_named}
use Rattle.b2_stmt_pack.proofs.laws.what_is_named_changes.Goals as goal

pub returns : goal.returns
returns c = change_what_is_named
