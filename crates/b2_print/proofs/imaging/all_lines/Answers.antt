use Rattle.std.proofs.Common.{◌≡◌, ℕ, ◌+◌, ◌-◌, ◌<◌, List, ◌∷◌, ◌++◌, [], min, take, drop, length, sym, ap, ◌∙◌, append_assoc, length-drop, arith}
use Rattle.std.proofs.lemmas.List.{take_rest, drop_min, drop-drop}
use Rattle.b2_dec.specs.declared.values.Value.{Value}
use Rattle.b2_print.specs.Images.{Piece, pieces_of, fields}
use Rattle.b2_print.specs.Imaged as spec
use Rattle.b2_print.proofs.LineLemmas.{further_lines-drop, further_lines-step, has_field}
use Rattle.b2_print.proofs.imaging.all_lines.Goals as goal

pub loop-used-init : goal.loop-used-init
loop-used-init c =
    let ps : List Piece = pieces_of c.args.image.now in
    let values = c.args.values.now in
    let rest : drop c.in_ok-used.used values ≡ drop (length (fields ps)) values = ap (λ n. drop n values) c.in_ok-used.ensures.used ∙ drop_min (length (fields ps)) values in
    record {
      enough = omega (arith, c.in_ok-used.ensures.used);
      text =
          rw (c.in_ok-used.ensures.line, c.new-text.ensures.items)
          (ap (λ vs. spec.line ps values ++ spec.further_lines ps 0 vs) rest ∙ ap (λ t. spec.line ps values ++ t) (sym (further_lines-drop ps (length (fields ps)) values)));
    }

pub loop-used-preserved : goal.loop-used-preserved
loop-used-preserved c =
    let ps : List Piece = pieces_of c.args.image.now in
    let values = c.args.values.now in
    let left : List Value = drop c.loop-used.used values in
    let n : ℕ = length (fields ps) in
    let whole : take (length values - c.loop-used.used) left ≡ left = take_rest values c.loop-used.used in
    let taken : c.in_ok-used-2.field-0 ≡ min n (length left) = c.in_ok-used-2.ensures.used ∙ ap (λ (vs : List Value). min n (length vs)) whole in
    let more : 0 < length left = omega (arith, length-drop c.loop-used.used values) in
    let some : 0 < n = has_field n (length values) c.requires (omega arith) in
    let step = further_lines-step ps left some more in
    let next : drop (c.loop-used.used + c.in_ok-used-2.field-0) values ≡ drop (min n (length left)) left =
    ap (λ k. drop (c.loop-used.used + k) values) taken ∙ sym (drop-drop (min n (length left)) c.loop-used.used values) in
    let further : List ℕ = spec.further_lines ps 0 (drop (min n (length left)) left) in
    record {
      enough = omega (arith, taken, length-drop c.loop-used.used values);
      text =
          rw (c.in_ok-used-2.ensures.line, c.in_ok-push.ensures.items, whole, next)
          (ap (λ t. t ++ further) (append_assoc c.loop-used.text.items (10 ∷ []) (spec.line ps left))
          ∙ append_assoc c.loop-used.text.items (10 ∷ spec.line ps left) further
          ∙ ap (λ t. c.loop-used.text.items ++ t) (sym step) ∙ c.loop-used.invariant.text);
    }
