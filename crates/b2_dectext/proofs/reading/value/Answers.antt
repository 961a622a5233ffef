use Rattle.std.proofs.Common.{ap, ◌∙◌, ◌+◌, ◌*◌, ◌^◌, length, arith}
use Rattle.b2_dec.specs.declared.number.Mode.TheVariants.{Round}
use Rattle.b2_dec.specs.Rounding.{rnd}
use Rattle.b2_dectext.specs.Digits.{value_after}
use Rattle.b2_dectext.specs.NumberText.{Parts}
use Rattle.b2_dectext.proofs.Scales.{no_digits, value_of-divided, value_of-multiplied}
use Rattle.b2_dectext.proofs.reading.value.Goals as goal

pub returns-then-s : goal.returns-then-s
returns-then-s c =
    let p : Parts = record { neg = c.args.s.now.neg; whole = c.args.s.now.whole.now; fraction = c.args.s.now.fraction.now; exponent_neg = c.args.s.now.exponent_neg; exponent = c.args.s.now.exponent.now } in
    let digits = c.with_digits-leading.ensures.value _ (c.with_digits.ensures.value 0 no_digits) in
    let all = value_after (value_after 0 p.whole) p.fraction in
    c.rounded.ensures all c.with_digits-leading.result.more 0 digits (omega arith)
    ∙ ap (λ tens. rnd Round p.neg (all * 10 ^ 0) (10 ^ (length p.fraction + tens))) c.exponent_value-tens.ensures.value
    ∙ value_of-divided p c.if-s.true

pub returns-else-s : goal.returns-else-s
returns-else-s c =
    let p : Parts = record { neg = c.args.s.now.neg; whole = c.args.s.now.whole.now; fraction = c.args.s.now.fraction.now; exponent_neg = c.args.s.now.exponent_neg; exponent = c.args.s.now.exponent.now } in
    let digits = c.with_digits-leading.ensures.value _ (c.with_digits.ensures.value 0 no_digits) in
    let all = value_after (value_after 0 p.whole) p.fraction in
    c.rounded-else-s.ensures all c.with_digits-leading.result.more c.exponent_value-tens.result digits (omega arith)
    ∙ ap (λ tens. rnd Round p.neg (all * 10 ^ tens) (10 ^ length p.fraction)) c.exponent_value-tens.ensures.value
    ∙ value_of-multiplied p c.if-s.false
