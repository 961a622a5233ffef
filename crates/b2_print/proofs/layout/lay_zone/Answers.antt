use Rattle.std.proofs.Common.{◌++◌, ap, ◌∙◌, arith}
use Rattle.b2_print.proofs.ItemLemmas.{zone_column, zone_placed}
use Rattle.b2_print.proofs.layout.lay_zone.Goals as goal

pub returns-in_ok-append_blanks-clause-text : goal.returns-in_ok-append_blanks-clause-text
returns-in_ok-append_blanks-clause-text c =
    c.in_ok-append_blanks.ensures.text ∙ ap (λ t. c.args.into.now.items ++ t) (zone_placed c.args.width c.args.column c.if-next-width.true)

pub returns-in_ok-append_blanks-clause-column : goal.returns-in_ok-append_blanks-clause-column
returns-in_ok-append_blanks-clause-column c = zone_column c.args.width c.args.column c.if-next-width.true (omega arith)
