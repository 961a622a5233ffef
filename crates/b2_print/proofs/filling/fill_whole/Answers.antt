use Rattle.std.proofs.Common.{◌≡◌, ℕ, ◌+◌, ◌-◌, ◌<◌, ◌≤◌, ◌∷◌, List, true, false, length, drop, get_or, ap, sym, ◌∙◌, arith}
use Rattle.b2_print.specs.Filling.{has_digit, place_byte, hash_count}
use Rattle.b2_print.proofs.PlaceLemmas.{one_more, whole_text-shown, whole_text-skipped, hash_count-mark, hash_count-other, put_before}
use Rattle.b2_print.proofs.filling.fill_whole.Goals as goal
use Rattle.b2_print.proofs.filling.fill_whole.Goals.{then-has_digit, else-has_digit, then-place-eq35, else-place-eq35}

pub loop-done-preserved : goal.loop-done-preserved
loop-done-preserved c =
    let xs = c.args.places.now in
    let place : ℕ = get_or xs (length xs - 1 - c.loop-done.done) 0 in
    let after : List ℕ = drop (length xs - c.loop-done.done) xs in
    let below : c.loop-done.done < length xs = omega arith in
    let count_after : hash_count after ≡ c.loop-done.k = sym c.loop-done.invariant.power in
    let room : 0 < c.loop-done.start = omega arith in
    let within : c.loop-done.start ≤ length c.loop-done.into = omega arith in
    let power : c.if-place-eq35.k ≡ hash_count (place ∷ after) =
    elim c.if-place-eq35.branch [
      | then-place-eq35 w ↦ w.k-is ∙ ap (λ n. n + 1) (sym count_after) ∙ sym (hash_count-mark place after w.if-place-eq35.true)
      | else-place-eq35 w ↦ w.k-is ∙ sym count_after ∙ sym (hash_count-other place after w.if-place-eq35.false)
    ] in
    let few : c.if-place-eq35.k ≤ c.loop-done.done + 1 =
    elim c.if-place-eq35.branch [ then-place-eq35 w ↦ omega (arith, w.k-is) | else-place-eq35 w ↦ omega (arith, w.k-is) ] in
    rw (one_more xs c.loop-done.done below)
    (elim c.if-has_digit.branch [
      | then-has_digit w ↦
          let shows : has_digit c.args.x c.loop-done.k ≡ true = sym c.has_digit.ensures ∙ w.if-has_digit.true in
          let text = whole_text-shown c.args.x place after c.loop-done.k count_after shows in
          let put = put_before c.loop-done.into c.loop-done.start w.place_byte.result room within in
          record {
            power = power;
            few = few;
            start = rw (text, w.start-is) (omega (arith, c.loop-done.invariant.start));
            near = rw w.start-is (omega arith);
            text = rw (text, w.start-is, w.into-is, put, w.place_byte.ensures) (ap (λ t. place_byte c.args.x c.loop-done.k place ∷ t) c.loop-done.invariant.text);
          }
      | else-has_digit w ↦
          let skips : has_digit c.args.x c.loop-done.k ≡ false = sym c.has_digit.ensures ∙ w.if-has_digit.false in
          let text = whole_text-skipped c.args.x place after c.loop-done.k count_after skips in
          record {
            power = power;
            few = few;
            start = rw (text, w.start-is) c.loop-done.invariant.start;
            near = rw w.start-is (omega arith);
            text = rw (text, w.start-is, w.into-is) c.loop-done.invariant.text;
          }
    ])
