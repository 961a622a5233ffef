use Rattle.std.proofs.Common.{◌∙◌, ℕ, List, [], Ok, sym, ap, subst}
use Rattle.b2_base.specs.Refusals.{IsRefused}
use Rattle.b2_dec.specs.declared.values.Value.{Value}
use Rattle.b2_expr.specs.Scope.{surroundings}
use Rattle.b2_expr.specs.Value.{in_statement}
use Rattle.b2_print.specs.Imaged.{appended, imaged}
use Rattle.b2_stmt_io.specs.Imaging.{is_joined, values_joined, values_of}
use Rattle.b2_rows.specs.CommaLists.{after_all_listed}
use Rattle.b2_stmt_io.specs.Operands.{operands_at, operands_tree}
use Rattle.b2_stmt_io.proofs.UsingRows.{using_shown, values_refused}
use Rattle.b2_stmt_io.proofs.imaging.shown_using.Goals as goal

pub returns-in-Err-imaged_values_at : goal.returns-in-Err-imaged_values_at
returns-in-Err-imaged_values_at c =
    let s = in_statement (surroundings c.args.e.now) in
    values_refused s c.args.unit.now c.in-Ok.image.now c.in-Err-imaged_values_at.fault c.requires.phrase c.in-Ok.ensures
    (subst (λ (u : List ℕ). IsRefused (values_of s (operands_at u)) c.in-Err-imaged_values_at.fault) c.items_of.ensures c.in-Err-imaged_values_at.ensures)

pub returns-in-Ok-using : goal.returns-in-Ok-using
returns-in-Ok-using c =
    let s = in_statement (surroundings c.args.e.now) in
    let xs = c.deref.result.now in
    let more = c.is_at.result in
    using_shown s c.args.unit.now c.in-Ok.image.now c.new.result xs more c.requires.phrase c.in-Ok.ensures
    (ap (λ (u : List ℕ). values_joined [] (values_of s (operands_at u))) (sym c.items_of.ensures)
    ∙ ap (λ (l : List Value). values_joined l (values_of s (operands_at c.items_of.result.now))) (sym c.new-values.ensures.items)
    ∙ c.in-Ok-imaged_values_at.ensures.0
    ∙ ap Ok (sym c.deref.ensures.value))
    (ap (λ (u : List ℕ). is_joined (after_all_listed (operands_tree u))) (sym c.items_of.ensures) ∙ c.in-Ok-imaged_values_at.ensures.1 ∙ sym c.is_at.ensures)
    (ap Ok c.new.ensures ∙ c.in-Ok-using.ensures.ok ∙ ap (λ (l : List ℕ). appended l (imaged c.in-Ok.image.now xs more)) c.new-out.ensures.items)
