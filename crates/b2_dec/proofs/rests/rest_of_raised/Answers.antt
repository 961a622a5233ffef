use Rattle.std.proofs.Common.{◌∙◌, ◌≤◌, ◌*◌, ◌^◌, mod-lt, mul-le-mul, arith}
use Rattle.std.proofs.lemmas.Nat.{mul-mod_first}
use Rattle.b2_dec.proofs.TenLemmas.{ten_le}
use Rattle.b2_dec.proofs.Rest.{rest-step}
use Rattle.b2_dec.proofs.rests.rest_of_raised.Goals as goal

pub loop-left-init : goal.loop-left-init
loop-left-init c = (mod-lt c.args.x c.requires.some, mul-mod_first c.args.x (10 ^ c.args.places) c.args.y)

pub overflow_mul-rest : goal.overflow_mul-rest
overflow_mul-rest c =
    let few : c.loop-left.rest ≤ 9999999999999 = omega (arith, c.loop-left.invariant.0) in
    let step : c.min-step.result ≤ 6 = omega (arith, c.min-step.ensures) in
    let bound : c.loop-left.rest * c.ten_to.result ≤ 9999999999999 * 10 ^ 6 = rw c.ten_to.ensures (mul-le-mul few (ten_le c.min-step.result 6 step)) in
    search (arith, bound)

pub loop-left-preserved : goal.loop-left-preserved
loop-left-preserved c =
    let step : c.min-step.result ≤ c.loop-left.left = omega (arith, c.min-step.ensures) in (
      mod-lt _ c.requires.some,
      rw c.ten_to.ensures (rest-step c.loop-left.rest c.min-step.result c.loop-left.left c.args.y step) ∙ c.loop-left.invariant.1,
    )
