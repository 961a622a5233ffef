use Rattle.std.proofs.Common.{◌≡◌, suc, ◌+◌, ◌-◌, ◌<◌, List, [], ◌∷◌, ◌++◌, length, drop, get_or, min, sym, ap, ◌∙◌, append_assoc, append-nil, arith, Some, None}
use Rattle.std.proofs.lemmas.List.{take_rest}
use Rattle.b2_dec.specs.declared.values.Value.{Value}
use Rattle.b2_print.specs.Images.{Field, Piece, field_width, field_at, pieces_of, fields}
use Rattle.b2_print.specs.Filling.{filled}
use Rattle.b2_print.specs.Imaged as spec
use Rattle.b2_print.proofs.ImageLemmas.{field-some}
use Rattle.b2_print.proofs.LineLemmas.{pieces_of-drop_literal, pieces_of-drop_field, pieces_of-drop_all, line-field, line-no_value}
use Rattle.b2_print.proofs.imaging.image_line.Goals as goal

pub loop-at-preserved-in-None : goal.loop-at-preserved-in-None
loop-at-preserved-in-None c =
    let image = c.args.image.now in
    let left : List Value = drop c.loop-at.used c.args.values.now in
    let here : field_at (drop c.loop-at.at image) ≡ None = ap field_at (sym (take_rest image c.loop-at.at)) ∙ sym c.in-None.ensures.field in
    let piece = pieces_of-drop_literal image c.loop-at.at c.loop-at-test.true here in
    let rest : List Piece = pieces_of (drop (c.loop-at.at + 1) image) in
    record {
      within = omega arith;
      enough = omega arith;
      text =
          rw c.in_ok-push-in-None.ensures.items
          (append_assoc c.loop-at.text.items (get_or image c.loop-at.at 0 ∷ []) (spec.line rest left)
          ∙ ap (λ ps. c.loop-at.text.items ++ spec.line ps left) (sym piece) ∙ c.loop-at.invariant.text);
      used = ap (λ ps. c.loop-at.used + min (length (fields ps)) (length c.args.values.now - c.loop-at.used)) (sym piece) ∙ c.loop-at.invariant.used;
    }

pub returns-then-used-values-clause-line : goal.returns-then-used-values-clause-line
returns-then-used-values-clause-line c =
    let image = c.args.image.now in
    let here : field_at (drop c.loop-at.at image) ≡ Some c.in-Some.field = ap field_at (sym (take_rest image c.loop-at.at)) ∙ sym c.in-Some.ensures.field in
    let piece = pieces_of-drop_field image c.loop-at.at c.in-Some.field c.loop-at-test.true here in
    let none : spec.line (pieces_of (drop c.loop-at.at image)) (drop c.loop-at.used c.args.values.now) ≡ [] =
    ap (λ ps. spec.line ps (drop c.loop-at.used c.args.values.now)) piece
    ∙ line-no_value c.in-Some.field (pieces_of (drop (c.loop-at.at + field_width c.in-Some.field) image)) c.args.values.now c.loop-at.used (omega arith) in
    sym (append-nil c.loop-at.text.items) ∙ ap (λ t. c.loop-at.text.items ++ t) (sym none) ∙ c.loop-at.invariant.text

pub loop-at-smaller : goal.loop-at-smaller
loop-at-smaller c =
    let image = c.args.image.now in
    let here : field_at (drop c.loop-at.at image) ≡ Some c.in-Some.field = ap field_at (sym (take_rest image c.loop-at.at)) ∙ sym c.in-Some.ensures.field in
    let some : 0 < field_width c.in-Some.field = rw here at (field-some (drop c.loop-at.at image)) in
    omega (arith, some, c.width-at.ensures)

pub loop-at-preserved : goal.loop-at-preserved
loop-at-preserved c =
    let image = c.args.image.now in
    let f : Field = c.in-Some.field in
    let left : List Value = drop c.loop-at.used c.args.values.now in
    let next : List Value = drop (c.loop-at.used + 1) c.args.values.now in
    let here : field_at (drop c.loop-at.at image) ≡ Some f = ap field_at (sym (take_rest image c.loop-at.at)) ∙ sym c.in-Some.ensures.field in
    let piece = pieces_of-drop_field image c.loop-at.at f c.loop-at-test.true here in
    let rest : List Piece = pieces_of (drop (c.loop-at.at + field_width f) image) in
    let value = line-field f rest c.args.values.now c.loop-at.used c.index-values-used.result (omega arith) c.index-values-used.is in
    let fields_here : length (fields (pieces_of (drop c.loop-at.at image))) ≡ suc (length (fields rest)) = ap (λ ps. length (fields ps)) piece in
    rw c.width-at.ensures
    (record {
      within = omega (arith, c.in-Some.ensures.within, ap length (take_rest image c.loop-at.at));
      enough = omega arith;
      text =
          rw c.in_ok-put-in-Some.ensures
          (append_assoc c.loop-at.text.items (filled f c.index-values-used.result) (spec.line rest next)
          ∙ ap (λ t. c.loop-at.text.items ++ t) (sym value)
          ∙ ap (λ ps. c.loop-at.text.items ++ spec.line ps left) (sym piece) ∙ c.loop-at.invariant.text);
      used = omega (arith, fields_here, c.loop-at.invariant.used);
    })

pub returns-clause-line : goal.returns-clause-line
returns-clause-line c =
    let image = c.args.image.now in
    let all = pieces_of-drop_all image c.loop-at.at c.loop-at-test.false in
    let left : List Value = drop c.loop-at.used c.args.values.now in
    sym (append-nil c.loop-at.text.items) ∙ ap (λ ps. c.loop-at.text.items ++ spec.line ps left) (sym all) ∙ c.loop-at.invariant.text

pub returns-clause-used : goal.returns-clause-used
returns-clause-used c =
    let image = c.args.image.now in
    let none : length (fields (pieces_of (drop c.loop-at.at image))) ≡ 0 = ap (λ ps. length (fields ps)) (pieces_of-drop_all image c.loop-at.at c.loop-at-test.false) in
    omega (arith, none, c.loop-at.invariant.used)
