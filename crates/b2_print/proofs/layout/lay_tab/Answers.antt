use Rattle.std.proofs.Common.{◌++◌, ◌∷◌, ◌-◌, if◌then◌else◌, replicate, sym, ap, ◌∙◌, arith}
use Rattle.b2_print.proofs.ItemLemmas.{tab_column, tab_placed}
use Rattle.b2_print.proofs.layout.lay_tab.Goals as goal

pub returns-then-line-clause-text : goal.returns-then-line-clause-text
returns-then-line-clause-text c =
    let to = c.args.to in
    let column = c.args.column in
    c.in_ok-append_blanks.ensures.text
    ∙ ap (λ t. c.args.into.now.items ++ t)
    (ap (λ t. if t then 10 ∷ replicate to 32 else replicate (to - column) 32) (sym c.if-line.true)
    ∙ tab_placed c.args.width column to c.goes_on_new_line-line.result (omega (arith, c.if-to-column.false)) (omega arith) c.goes_on_new_line-line.ensures)

pub returns-clause-text : goal.returns-clause-text
returns-clause-text c =
    let to = c.args.to in
    let column = c.args.column in
    c.in_ok-append_blanks-2.ensures.text
    ∙ ap (λ t. c.args.into.now.items ++ t)
    (ap (λ t. if t then 10 ∷ replicate to 32 else replicate (to - column) 32) (sym c.if-line.false)
    ∙ tab_placed c.args.width column to c.goes_on_new_line-line.result (omega (arith, c.if-to-column.false)) (omega arith) c.goes_on_new_line-line.ensures)

pub returns-then-line-clause-column : goal.returns-then-line-clause-column
returns-then-line-clause-column c =
    tab_column c.args.width c.args.column c.args.to c.goes_on_new_line-line.result (omega (arith, c.if-to-column.false)) (omega arith) c.goes_on_new_line-line.ensures

pub returns-clause-column : goal.returns-clause-column
returns-clause-column c =
    tab_column c.args.width c.args.column c.args.to c.goes_on_new_line-line.result (omega (arith, c.if-to-column.false)) (omega arith) c.goes_on_new_line-line.ensures
