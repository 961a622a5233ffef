use Rattle.std.proofs.Common.{◌≡◌, ℕ, ◌+◌, ◌-◌, drop, refl, arith, rules}
use Rattle.b2_dectext.proofs.DigitsPut.{digits-none, digits-front, digits-back, digits-left, digits-put}
use Rattle.b2_dectext.proofs.printing.put_digits.Goals as goal

pub loop-place-init : goal.loop-place-init
loop-place-init c =
    let end : ℕ = c.args.at + c.args.count in
    let none : end - end ≡ 0 = omega arith in
    record {
      long = c.told-into;
      above = omega arith;
      below = omega arith;
      left = rw none (omega arith);
      front = refl;
      back = digits-none (end - end) c.args.n (drop end c.args.into.now) none;
    }

pub bounds-into-place : goal.bounds-into-place
bounds-into-place c = omega (arith, c.loop-place.invariant.below, c.requires, c.loop-place-test.true)

pub loop-place-preserved : goal.loop-place-preserved
loop-place-preserved c =
    let inv = c.loop-place.invariant in
    let end : ℕ = c.args.at + c.args.count in
    let p : ℕ = c.loop-place.place in
    let some = c.loop-place-test.true in
    let next : p - 1 + 1 ≡ p = omega (arith, some) in
    let step : end - (p - 1) ≡ (end - p) + 1 = omega (arith, some, inv.below) in
    record {
      long = search rules;
      above = omega (arith, some);
      below = omega (arith, inv.below);
      left = digits-left (end - p) (end - (p - 1)) c.args.n c.loop-place.left step inv.left;
      front = digits-front (p - 1) p _ c.short_digit.result c.args.into.now next inv.front;
      back = digits-back (p - 1) p (end - p) (end - (p - 1)) c.args.n c.loop-place.left c.short_digit.result c.loop-place.into _ next step (omega (arith, inv.long, inv.below, c.requires)) inv.left c.short_digit.ensures inv.back;
    }

pub returns-clause-text : goal.returns-clause-text
returns-clause-text c =
    let inv = c.loop-place.invariant in
    let at : c.loop-place.place ≡ c.args.at = omega (arith, inv.above, c.loop-place-test.false) in
    digits-put c.args.at c.args.count c.loop-place.place c.args.n c.args.into.now c.loop-place.into at (omega (arith, c.told-into, c.requires)) inv.front inv.back
