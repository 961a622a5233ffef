use Rattle.std.proofs.Common.{sym}
use Rattle.b2_expr.specs.Scope.{surroundings}
use Rattle.b2_expr.specs.Value.{in_statement}
use Rattle.b2_stmt_mat.proofs.FormulaRows.{first_refused}
use Rattle.b2_stmt_mat.proofs.formulas.matrices_at.Goals as goal

pub returns-in-Err-clause-made_of : goal.returns-in-Err-clause-made_of
returns-in-Err-clause-made_of c = sym (first_refused (in_statement (surroundings c.args.e.now)) c.args.text.now c.in-Err.code c.requires.phrase c.in-Err.ensures.array)
