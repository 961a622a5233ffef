use Rattle.std.proofs.Common.{sym, ap, ◌∙◌, take, drop}
use Rattle.b2_pack.proofs.TextLemmas.{inside-minus, inside-plus}
use Rattle.b2_pack.proofs.field_values.without_outer_blanks.Goals as goal

pub returns-then-neg-clause-text : goal.returns-then-neg-clause-text
returns-then-neg-clause-text c x neg e =
    c.first_bytes-text.ensures ∙ ap (λ n. take n c.args.shown.now) c.saturating_sub.ensures ∙ inside-minus x c.args.shown.now (sym c.if-neg.true ∙ neg) e

pub returns-else-neg-clause-text : goal.returns-else-neg-clause-text
returns-else-neg-clause-text c x neg e =
    c.rest_after.ensures ∙ ap (drop 1) (c.first_bytes-text.ensures ∙ ap (λ n. take n c.args.shown.now) c.saturating_sub.ensures)
    ∙ inside-plus x c.args.shown.now (sym c.if-neg.false ∙ neg) e
