use Rattle.std.proofs.Common.{◌==◌, sym, ap, ◌∙◌, ne_eqb}
use Rattle.b2_base.specs.Byte as byte
use Rattle.b2_expr.specs.Operators.{joined}
use Rattle.b2_expr.specs.Plain.{is_operator}
use Rattle.b2_expr.proofs.PlainSums.{sum_joined}
use Rattle.b2_expr.proofs.plain.plain_sum.Goals as goal

pub returns : goal.returns
returns c =
    let some = sym c.is_code.ensures ∙ c.if-is_code.false in
    let more = sym c.is_code-2.ensures ∙ c.if-is_code-2.false in
    sum_joined c.args.own.now c.args.mode c.args.text.now c.plain_operand-start.result c.get.result c.last_bytes-rest.result.now c.rest_after-item.result.now c.plain_operand-other.result c.get-2.result c.last_bytes.result.now c.joined.result
    c.requires.phrase c.plain_operand-start.ensures.value (c.plain_operand-start.ensures.unsigned some) some c.get.ensures c.last_bytes-rest.ensures
    (ap is_operator (sym c.first-operator.ensures) ∙ sym c.if-not-is_operator.ensures)
    (ap (λ b. b == byte.caret) (sym c.first-operator.ensures) ∙ ne_eqb _ _ c.if-operator-eq94.false)
    c.rest_after-item.ensures c.plain_operand-other.ensures.value (c.plain_operand-other.ensures.unsigned more) more c.get-2.ensures c.last_bytes.ensures
    (ap is_operator (sym c.first.ensures) ∙ (sym c.is_operator-2.ensures ∙ c.if-is_operator.false))
    (c.joined.ensures ∙ ap (λ b. joined c.args.mode b c.get.result c.get-2.result) c.first-operator.ensures)
