use Rattle.std.proofs.Common.{ap, sym, subst, ◌∙◌, arith}
use Rattle.std.specs.Int.{w64, from_be_bytes}
use Rattle.b2_dec.specs.Number.{IsNumber}
use Rattle.b2_dec.proofs.Nibbles.{exponent_size-most}
use Rattle.b2_dec.proofs.PackedWords.{by_parts, word-head}
use Rattle.b2_dec.proofs.packing.unpacked.Goals as goal

pub place-requires : goal.place-requires
place-requires c =
    let x = c.requires.number in
    let head = word-head x _ c.requires.is_number (c.from_be_bytes-word.ensures ∙ ap (from_be_bytes w64) c.requires.spelled) in
    omega (arith, c.exponent_digits.ensures x c.requires.is_number head, exponent_size-most x c.requires.is_number.highest)

pub of_parts-requires : goal.of_parts-requires
of_parts-requires c =
    let x = c.requires.number in
    let word = c.from_be_bytes-word.ensures ∙ ap (from_be_bytes w64) c.requires.spelled in
    let head = word-head x _ c.requires.is_number word in
    subst IsNumber (sym (by_parts x _ _ _ (c.is_below_zero.ensures x c.requires.is_number head)
    (c.coefficient.ensures x c.requires.is_number word)
    (c.place.ensures.value x c.requires.is_number head (c.exponent_digits.ensures x c.requires.is_number head)))) c.requires.is_number

pub returns : goal.returns
returns c x h is =
    let word = c.from_be_bytes-word.ensures ∙ ap (from_be_bytes w64) is in
    let head = word-head x _ h word in
    c.of_parts.ensures
    ∙ by_parts x _ _ _ (c.is_below_zero.ensures x h head) (c.coefficient.ensures x h word)
    (c.place.ensures.value x h head (c.exponent_digits.ensures x h head))
