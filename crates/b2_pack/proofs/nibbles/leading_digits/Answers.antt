use Rattle.std.proofs.Common.{◌≡◌, ℕ, ◌+◌, ◌*◌, ◌<◌, ◌≤◌, List, length, take, drop, get_or, sym, subst, ap, ◌∙◌, arith, length-drop, leb-true}
use Rattle.std.proofs.lemmas.List.{get_or-take, get_or-drop, length-take}
use Rattle.std.proofs.lemmas.List.Sums.{fold_more}
use Rattle.b2_dectext.specs.Digits.{IsLeading}
use Rattle.b2_pack.specs.Nibbles.{nibbles, decimal_after, is_decimal_nibble}
use Rattle.b2_pack.proofs.NibbleLemmas.{nibbles-length, each_passes}
use Rattle.b2_pack.proofs.nibbles.leading_digits.Goals as goal

pub with_digit-leading-requires-clause-decimal : goal.with_digit-leading-requires-clause-decimal
with_digit-leading-requires-clause-decimal c =
    let ns : List ℕ = nibbles c.args.bytes.now in
    let i = c.loop-done.done in
    let long : i < length (take c.args.count (drop c.args.start ns)) = omega (arith, length-take c.args.count (drop c.args.start ns), length-drop c.args.start ns, nibbles-length c.args.bytes.now) in
    let inside : i < c.args.count = omega arith in
    let all = each_passes is_decimal_nibble (take c.args.count (drop c.args.start ns)) i long c.requires.decimal in
    let here : get_or (take c.args.count (drop c.args.start ns)) i 0 ≡ get_or ns (c.args.start + i) 0 = get_or-take c.args.count (drop c.args.start ns) i 0 inside ∙ get_or-drop c.args.start ns i 0 in
    let small : c.nibble_at.result ≤ 9 = leb-true c.nibble_at.result 9 (ap is_decimal_nibble (c.nibble_at.ensures.nibble ∙ sym here) ∙ all) in
    omega arith

pub loop-done-preserved : goal.loop-done-preserved
loop-done-preserved c =
    let rest : List ℕ = drop c.args.start (nibbles c.args.bytes.now) in
    let i = c.loop-done.done in
    let below : i < length rest = omega (arith, length-drop c.args.start (nibbles c.args.bytes.now), nibbles-length c.args.bytes.now) in
    let here : get_or rest i 0 ≡ c.nibble_at.result = get_or-drop c.args.start (nibbles c.args.bytes.now) i 0 ∙ sym c.nibble_at.ensures.nibble in
    let more : decimal_after 0 (take (i + 1) rest) ≡ 10 * decimal_after 0 (take i rest) + c.nibble_at.result =
    fold_more (λ m d. 10 * m + d) 0 rest i 0 below ∙ ap (λ d. 10 * decimal_after 0 (take i rest) + d) here in
    record {
      few = omega arith;
      read =
          subst (λ v. IsLeading v c.with_digit-leading.result.digits c.with_digit-leading.result.more) (sym more)
          (c.with_digit-leading.ensures.value _ c.loop-done.invariant.read);
    }
