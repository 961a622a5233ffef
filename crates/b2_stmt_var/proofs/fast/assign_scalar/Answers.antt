use Rattle.std.proofs.Common.{◌≡◌, ◌+◌, ℕ, true, None, drop, get_or, sym, ap, subst, ◌∙◌}
use Rattle.b2_base.specs.Byte as byte
use Rattle.b2_base.specs.Lexical.{first, is_letter}
use Rattle.b2_atom.specs.Words.{Text}
use Rattle.b2_atom.specs.declared.rows.TheConstants as row
use Rattle.b2_rows.specs.Rows.{tree_at}
use Rattle.b2_vars.specs.declared.name.Var.{Var}
use Rattle.b2_vars.specs.Calls.{set_code, with_change, with_scalar}
use Rattle.b2_vars.specs.Names.{scalar_named}
use Rattle.b2_vars.specs.Shapes.{cell_at}
use Rattle.b2_vars.specs.Tables.{shape_at}
use Rattle.b2_vars.specs.Variables.{with_number}
use Rattle.b2_expr.specs.Named.{counted_digit, plain_width}
use Rattle.b2_expr.specs.Value.{context_of, value}
use Rattle.b2_expr.specs.declared.operators.Level.TheVariants as level
use Rattle.b2_stmt_var.specs.Fast.{own_work}
use Rattle.b2_stmt_var.proofs.PlainAssignment.{scalar_assigned, uncoded}
use Rattle.b2_stmt_var.proofs.fast.assign_scalar.Goals as goal

pub returns-clause-done : goal.returns-clause-done
returns-clause-done c done =
    let t = c.args.text.now in
    let w = own_work c.args.me.now c.args.home.now in
    let s = c.args.me.now.vars in
    let h : is_letter (first t) ≡ true = ap is_letter (sym c.first-letter.ensures) ∙ sym c.is_letter.ensures ∙ c.if-not-is_letter.false in
    let wide : c.plain_width-width.result ≡ plain_width t = c.plain_width-width.ensures in
    let is : get_or t (plain_width t) 0 ≡ byte.equals = ap (λ (n : ℕ). get_or t n 0) (sym wide) ∙ sym c.at.ensures ∙ c.if-at-ne61.false in
    let digit : c.counted_digit.result ≡ counted_digit (get_or t 1 0) = c.counted_digit.ensures.digit ∙ ap counted_digit c.at-2.ensures in
    let named : scalar_named c.first-letter.result c.counted_digit.result ≡ scalar_named (first t) (counted_digit (get_or t 1 0)) = (λ i. scalar_named (c.first-letter.ensures i) (digit i)) in
    scalar_assigned w t c.number_here-x.result c.get.result _ c.requires.phrase h is
    (c.number_here-x.ensures ∙ ap (λ (u : Text). value (context_of w) level.Sum (tree_at row.SUM u)) (c.rest_after.ensures ∙ ap (λ (n : ℕ). drop (n + 1) t) wide))
    c.get.ensures
    (subst (λ (v : Var). set_code v 0 0 s ≡ None) named (uncoded (set_code (scalar_named c.first-letter.result c.counted_digit.result) 0 0 s) (sym c.set_scalar.ensures.room ∙ done)))
    (c.set_scalar.ensures.set done ∙ ap (λ (v : Var). with_change v (with_number (cell_at (shape_at v s.table) 0 0) c.get.result) (with_scalar v s)) named)
