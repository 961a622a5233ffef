use Rattle.std.proofs.Common.{◌∙◌, ap, sym, subst}
use Rattle.b2_vars.specs.Shapes.{cells}
use Rattle.b2_vars.specs.Tables.{VarsState, shape_at}
use Rattle.b2_expr.specs.Scope.{surroundings}
use Rattle.b2_access.proofs.Dispatch.{ok_map}
use Rattle.b2_stmt_mat.specs.Arrays.{AnswersBy, families, shape_in}
use Rattle.b2_stmt_mat.specs.Matrices.{items_seen, numbers_made}
use Rattle.b2_stmt_mat.specs.declared.formulas.Formula.{Formula}
use Rattle.b2_stmt_mat.specs.declared.formulas.Formula.TheVariants as formula
use Rattle.b2_stmt_mat.proofs.MadeOf.{as_large, turned_cells}
use Rattle.b2_stmt_mat.proofs.matrices.numbers_made.Goals as goal

pub returns-in-Scaled-clause-count : goal.returns-in-Scaled-clause-count
returns-in-Scaled-clause-count c =
    ok_map c.numbers_scaled.result _ _ (λ xs is. as_large c.args.asked.now.made_of (formula.Scaled c.in-Scaled.k c.in-Scaled.b) c.args.asked.now.to (families (surroundings c.args.e.now)) c.args.shape _ c.requires.shape c.in-Scaled.is (is ∙ ap (λ (v : VarsState). cells (shape_at c.in-Scaled.b.var v.table)) c.vars_of.ensures)) c.numbers_scaled.ensures.count

pub returns-in_ok-numbers_transposed-in-Transposed-clause-count : goal.returns-in_ok-numbers_transposed-in-Transposed-clause-count
returns-in_ok-numbers_transposed-in-Transposed-clause-count c =
    let s = shape_in c.in-Transposed.b (families (surroundings c.args.e.now)) in
    as_large c.args.asked.now.made_of (formula.Transposed c.in-Transposed.b) c.args.asked.now.to (families (surroundings c.args.e.now)) c.args.shape _ c.requires.shape c.in-Transposed.is (c.in_ok-numbers_transposed-in-Transposed.ensures.count ∙ ap (λ (v : VarsState). cells (shape_at c.in-Transposed.b.var v.table)) c.vars_of-in-Transposed.ensures ∙ turned_cells s.rows s.cols)

pub returns-in-Filled-clause-made : goal.returns-in-Filled-clause-made
returns-in-Filled-clause-made c =
    subst (λ (f : Formula). AnswersBy items_seen (numbers_made f (record { rows = c.args.shape.rows; cols = c.args.shape.cols }) c.args.mode (families (surroundings c.args.e.now))) c.numbers_filled.result) (sym c.in-Filled.is) c.numbers_filled.ensures.made

pub returns-in_ok-numbers_of-in-Copied-clause-count : goal.returns-in_ok-numbers_of-in-Copied-clause-count
returns-in_ok-numbers_of-in-Copied-clause-count c =
    as_large c.args.asked.now.made_of (formula.Copied c.in-Copied.b) c.args.asked.now.to (families (surroundings c.args.e.now)) c.args.shape _ c.requires.shape c.in-Copied.is (c.in_ok-numbers_of-in-Copied.ensures.count ∙ ap (λ (v : VarsState). cells (shape_at c.in-Copied.b.var v.table)) c.vars_of-in-Copied.ensures)
