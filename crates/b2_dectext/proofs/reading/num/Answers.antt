use Rattle.std.proofs.Common.{◌+◌, length, ap, ◌∙◌, le_refl}
use Rattle.std.proofs.lemmas.Slice.{between_to_end}
use Rattle.b2_dectext.specs.NumberText.{number_len, spaces_len}
use Rattle.b2_dectext.proofs.Spaced.{spaced-none, spaced-is}
use Rattle.b2_dectext.proofs.reading.num.Goals as goal

pub returns-then-number-eq0-clause-longest : goal.returns-then-number-eq0-clause-longest
returns-then-number-eq0-clause-longest c =
    let text = c.args.text.now in
    let front = c.spaces_len-front.result in
    spaced-none text front _ c.spaces_len-front.ensures.value
    (c.spelling-number.ensures.len ∙ ap number_len (between_to_end text front (length text) (le_refl (length text)))) c.if-number-eq0.true

pub returns-clause-longest : goal.returns-clause-longest
returns-clause-longest c =
    let text = c.args.text.now in
    let front = c.spaces_len-front.result in
    let after = front + c.spelling-number.result.len in
    spaced-is text front _ _ c.spaces_len-front.ensures.value
    (c.spelling-number.ensures.len ∙ ap number_len (between_to_end text front (length text) (le_refl (length text))))
    (c.spaces_len.ensures.value ∙ ap spaces_len (between_to_end text after (length text) (le_refl (length text)))) c.if-number-eq0.false
