use Rattle.std.proofs.Common.{sym, ◌∙◌, arith}
use Rattle.b2_expr.proofs.PlainTexts.{text_alone}
use Rattle.b2_expr.proofs.plain.plain_text.Goals as goal

pub returns : goal.returns
returns c =
    text_alone c.args.own.now c.args.text.now c.in-Some.bytes.now c.in-Some.rest.now c.requires.phrase c.in-Some.ensures (sym c.is_at.ensures ∙ c.if-is_at.false)
    (let few = c.if-bytes-gt255.false in omega (arith, few))
