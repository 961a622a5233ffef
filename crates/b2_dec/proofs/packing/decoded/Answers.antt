use Rattle.std.proofs.Common.{ap, sym, ◌∙◌, Some, arith}
use Rattle.std.specs.Int.{w64, from_be_bytes}
use Rattle.b2_dec.proofs.Ranks.{thirteen}
use Rattle.b2_dec.proofs.Nibbles.{exponent_size-most}
use Rattle.b2_dec.proofs.PackedWords.{by_parts, word-head}
use Rattle.b2_dec.proofs.packing.decoded.Goals as goal

pub returns-then-coef-eq0 : goal.returns-then-coef-eq0
returns-then-coef-eq0 c x h e =
    let coef = c.coefficient-coef.ensures x h (c.from_be_bytes-word.ensures ∙ ap (from_be_bytes w64) e) in
    ap Some (c.zero.ensures ∙ sym (h.spelling (omega (arith, coef, c.if-coef-eq0.true))))

pub returns-then-coef-lt1000000000000 : goal.returns-then-coef-lt1000000000000
returns-then-coef-lt1000000000000 c x h e =
    let coef = c.coefficient-coef.ensures x h (c.from_be_bytes-word.ensures ∙ ap (from_be_bytes w64) e) in
    absurd (omega (arith, coef, thirteen x h (λ none. c.if-coef-eq0.false (coef ∙ none)), c.if-coef-lt1000000000000.true))

pub returns-then-coef-ge-COEFFICIENT_LIMIT : goal.returns-then-coef-ge-COEFFICIENT_LIMIT
returns-then-coef-ge-COEFFICIENT_LIMIT c x h e =
    let coef = c.coefficient-coef.ensures x h (c.from_be_bytes-word.ensures ∙ ap (from_be_bytes w64) e) in
    absurd (omega (arith, coef, h.digits, c.if-coef-ge-COEFFICIENT_LIMIT.true))

pub returns-then-size-gt99 : goal.returns-then-size-gt99
returns-then-size-gt99 c x h e =
    let head = word-head x _ h (c.from_be_bytes-word.ensures ∙ ap (from_be_bytes w64) e) in
    let size = c.exponent_digits-size.ensures x h head in
    absurd (omega (arith, size, exponent_size-most x h.highest, c.if-size-gt99.true))

pub returns : goal.returns
returns c x h e =
    let word = c.from_be_bytes-word.ensures ∙ ap (from_be_bytes w64) e in
    let head = word-head x _ h word in
    ap Some (c.ending_at.ensures ∙ by_parts x _ _ _ (c.is_below_zero.ensures x h head)
    (c.coefficient-coef.ensures x h word) (c.place.ensures.value x h head (c.exponent_digits-size.ensures x h head)))
