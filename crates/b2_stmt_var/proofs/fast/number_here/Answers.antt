use Rattle.std.proofs.Common.{refl, sym}
use Rattle.b2_expr.specs.Workspace.{surroundings_of}
use Rattle.b2_stmt_var.specs.Fast.{own_work}
use Rattle.b2_stmt_var.proofs.fast.number_here.Goals as goal

pub returns-then-not-is_code : goal.returns-then-not-is_code
returns-then-not-is_code c = sym (c.plain_number-plain.ensures (sym c.if-not-is_code.ensures) (surroundings_of (own_work c.args.me.now c.args.home.now)) refl refl)
