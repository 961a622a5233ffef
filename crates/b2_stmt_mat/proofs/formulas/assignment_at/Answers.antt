use Rattle.std.proofs.Common.{false, sym, ap, ◌∙◌}
use Rattle.b2_atom.specs.Words.{Text}
use Rattle.b2_atom.specs.declared.forms.Leaf.TheVariants as leaf
use Rattle.b2_rows.specs.Leaves.{leaf_bytes}
use Rattle.b2_expr.specs.Scope.{surroundings}
use Rattle.b2_expr.specs.Value.{in_statement}
use Rattle.b2_stmt_mat.specs.Arrays.{array_of}
use Rattle.b2_stmt_mat.proofs.FormulaRows.{result_refused}
use Rattle.b2_stmt_mat.proofs.formulas.assignment_at.Goals as goal

pub returns-in-Err-clause-asked : goal.returns-in-Err-clause-asked
returns-in-Err-clause-asked c =
    sym (result_refused (in_statement (surroundings c.args.e.now)) c.args.unit.now c.in-Err.code c.requires.phrase
    (ap (λ (u : Text). array_of (surroundings c.args.e.now) false (leaf_bytes leaf.Name u)) (sym c.rest_after.ensures) ∙ c.in-Err.ensures.array))
