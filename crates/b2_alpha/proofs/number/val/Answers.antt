use Rattle.std.proofs.Common.{◌+◌, ◌*◌, take, sym, ap, ◌∙◌, arith}
use Rattle.std.proofs.lemmas.List.{length-take}
use Rattle.b2_alpha.specs.Places.{number_in_base}
use Rattle.b2_alpha.proofs.PlaceValues.{below_take, front-lt, number_in_base-more}
use Rattle.b2_alpha.proofs.number.val.Goals as goal

pub overflow_mul-value : goal.overflow_mul-value
overflow_mul-value c =
    let small = front-lt (take c.args.n c.args.a.now) c.loop-b.b-index (below_take 256 c.args.n c.args.a.now (omega arith) (λ k. let fits = c.type_inv.a k in omega arith)) (omega (arith, length-take c.args.n c.args.a.now, c.requires.four)) in
    omega (arith, c.loop-b.invariant)

pub overflow_add-value : goal.overflow_add-value
overflow_add-value c =
    let small = front-lt (take c.args.n c.args.a.now) c.loop-b.b-index (below_take 256 c.args.n c.args.a.now (omega arith) (λ k. let fits = c.type_inv.a k in omega arith)) (omega (arith, length-take c.args.n c.args.a.now, c.requires.four)) in
    let byte = below_take 256 c.args.n c.args.a.now (omega arith) (λ k. let fits = c.type_inv.a k in omega arith) c.loop-b.b-index in
    omega (arith, c.loop-b.invariant)

pub loop-b-preserved : goal.loop-b-preserved
loop-b-preserved c =
    ap (λ v. v * 256 + c.from.result) c.loop-b.invariant
    ∙ ap (λ x. number_in_base 256 (take c.loop-b.b-index (take c.args.n c.args.a.now)) * 256 + x) c.from.ensures
    ∙ sym (number_in_base-more 256 (take c.args.n c.args.a.now) c.loop-b.b-index (omega arith))
