use Rattle.std.proofs.Common.{◌≡◌, ℕ, ◌+◌, ◌-◌, ◌<◌, ◌∷◌, length, drop, ap, sym, refl, ◌∙◌, arith}
use Rattle.std.proofs.lemmas.List.{drop-set}
use Rattle.b2_print.specs.Filling.{digits_from}
use Rattle.b2_print.proofs.PlaceLemmas.{point_width-some, point_filled-some}
use Rattle.b2_print.proofs.filling.fill_point.Goals as goal

pub returns-clause-text : goal.returns-clause-text
returns-clause-text c =
    let xs = c.loop-done.into in
    let i : ℕ = c.loop-done.start - 1 in
    let wide = point_width-some c.args.decimals c.if-decimals-eq0.false in
    let all : c.loop-done.done ≡ c.args.decimals = omega arith in
    let inside : i < length xs = omega arith in
    let next : i + 1 ≡ c.loop-done.start = omega arith in
    let first : c.args.decimals - c.args.decimals + 1 ≡ 1 = omega arith in
    let digits : drop (i + 1) xs ≡ digits_from c.args.x 1 c.args.decimals = ap (λ n. drop n xs) next ∙ c.loop-done.invariant.text ∙ rw (all, first) refl in
    drop-set xs i 46 inside ∙ ap (λ t. 46 ∷ t) digits ∙ sym (point_filled-some c.args.x c.args.decimals c.if-decimals-eq0.false)
