use Rattle.std.proofs.Common.{◌++◌, if◌then◌else◌, sym, ap, ◌∙◌, arith}
use Rattle.b2_print.proofs.ItemLemmas.{number_column, number_placed}
use Rattle.b2_print.proofs.layout.lay_number.Goals as goal

pub returns-then-line-clause-text : goal.returns-then-line-clause-text
returns-then-line-clause-text c =
    c.in_ok-append.ensures.text
    ∙ ap (λ t. c.args.into.now.items ++ t)
    (number_placed c.args.width c.args.column c.write-count.result c.saturating_add-after.result c.args.x _ c.goes_on_new_line-line.result (omega arith) c.write-count.ensures.form
    c.write-count.ensures.len (c.saturating_add-after.ensures ∙ omega arith) c.goes_on_new_line-line.ensures)

pub returns-else-line-clause-text : goal.returns-else-line-clause-text
returns-else-line-clause-text c =
    c.in_ok-append.ensures.text
    ∙ ap (λ t. c.args.into.now.items ++ t)
    (number_placed c.args.width c.args.column c.write-count.result c.saturating_add-after.result c.args.x _ c.goes_on_new_line-line.result (omega arith) c.write-count.ensures.form
    c.write-count.ensures.len (c.saturating_add-after.ensures ∙ omega arith) c.goes_on_new_line-line.ensures)

pub returns-then-line-clause-column : goal.returns-then-line-clause-column
returns-then-line-clause-column c =
    ap (λ t. if t then c.write-count.result else c.saturating_add-after.result) (sym c.if-line.true)
    ∙ number_column c.args.width c.args.column c.write-count.result c.saturating_add-after.result c.args.x c.goes_on_new_line-line.result (omega arith) c.write-count.ensures.len
    c.write-count.ensures.bound (c.saturating_add-after.ensures ∙ omega arith) c.goes_on_new_line-line.ensures

pub returns-else-line-clause-column : goal.returns-else-line-clause-column
returns-else-line-clause-column c =
    ap (λ t. if t then c.write-count.result else c.saturating_add-after.result) (sym c.if-line.false)
    ∙ number_column c.args.width c.args.column c.write-count.result c.saturating_add-after.result c.args.x c.goes_on_new_line-line.result (omega arith) c.write-count.ensures.len
    c.write-count.ensures.bound (c.saturating_add-after.ensures ∙ omega arith) c.goes_on_new_line-line.ensures
