use Rattle.std.proofs.Common.{◌≡◌, ℕ, ◌+◌, List, [], take, drop, false, sym, ap, ◌∙◌, append_assoc, Ok}
use Rattle.std.proofs.lemmas.List.{take_rest}
use Rattle.b2_print.specs.Images.{Field, field_width, pieces_of}
use Rattle.b2_print.specs.Filling.{fits, number_filled}
use Rattle.b2_print.specs.Imaged as spec
use Rattle.b2_print.proofs.LineLemmas.{converted-no_field, converted-too_large, converted-fits, none_if, some_if}
use Rattle.b2_print.proofs.imaging.convert.Goals as goal

pub returns-in_default-clause-code : goal.returns-in_default-clause-code
returns-in_default-clause-code c = rw c.known.ensures (converted-no_field c.args.image.now c.args.x c.in_default.ensures)

pub returns-in_default-filled_number-clause-code : goal.returns-in_default-filled_number-clause-code
returns-in_default-filled_number-clause-code c =
    let large : fits c.in-Some.field c.args.x ≡ false = none_if (fits c.in-Some.field c.args.x) (number_filled c.in-Some.field c.args.x) c.in_default-filled_number.ensures.text in
    rw c.known-in_default-filled_number.ensures (converted-too_large c.args.image.now c.in-Some.start c.in-Some.field c.args.x c.in-Some.ensures large)

pub returns-clause-ok : goal.returns-clause-ok
returns-clause-ok c =
    let image = c.args.image.now in
    let f : Field = c.in-Some.field in
    let after : ℕ = c.in-Some.start + field_width f in
    let found = some_if (fits f c.args.x) (number_filled f c.args.x) c.in-Some-filled_number.number c.in-Some-filled_number.ensures.text in
    let tail : List ℕ = spec.line (pieces_of (drop after image)) [] in
    let rest : c.before_field.result.now ≡ tail =
    c.before_field.ensures.text ∙ ap (λ xs. spec.line (pieces_of xs) []) (take_rest image (c.in-Some.start + c.width.result))
    ∙ ap (λ w. spec.line (pieces_of (drop (c.in-Some.start + w) image)) []) c.width.ensures in
    converted-fits image c.in-Some.start f c.args.x c.in-Some.ensures found.0
    ∙ ap (λ t. Ok t)
    (rw (c.extend-3.ensures, c.extend-2.ensures, c.extend.ensures, c.clear.ensures, c.bytes.ensures.value, rest, found.1)
    (sym (append_assoc (take c.in-Some.start image) (number_filled f c.args.x) tail)))
