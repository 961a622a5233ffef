use Rattle.std.proofs.Common.{sym, ◌∙◌}
use Rattle.b2_expr.proofs.PlainTexts.{scalar_plain_text}
use Rattle.b2_expr.proofs.plain.plain_alpha.Goals as goal

pub returns-in-Ok : goal.returns-in-Ok
returns-in-Ok c =
    scalar_plain_text c.args.own.now c.args.text.now c.alpha_name-width.result.0 c.alpha_name-width.result.1 c.rest_after-rest.result.now c.variable_of.result c.in-Ok.bytes.now c.first_bytes.result.now c.value_len.result
    c.requires.phrase c.alpha_name-width.ensures.value c.alpha_name-width.ensures.width c.rest_after-rest.ensures c.if-name.false (sym c.is_at.ensures ∙ c.if-is_at.false) c.variable_of.ensures
    (c.in-Ok.ensures.value, c.in-Ok.ensures.code) c.value_len.ensures.value c.first_bytes.ensures
