use Rattle.std.proofs.Common.{◌≡◌, ℕ, ◌+◌, ◌-◌, ◌/◌, ◌%◌, ◌^◌, List, ◌∷◌, length, set, drop, sym, ap, ◌∙◌, arith}
use Rattle.std.proofs.Math.Nat.{div-div-eq-div-mul}
use Rattle.std.proofs.lemmas.List.{drop-set, length-set}
use Rattle.b2_alpha.specs.Places.{number_in_base, digits_in_base}
use Rattle.b2_alpha.proofs.PlaceValues.{pow_more, digits_more, number_in_base-digits_fitting}
use Rattle.b2_alpha.proofs.number.bin.Goals as goal

-- one digit more, written before the others
one_more : (xs : List ℕ) (v rest i p : ℕ) → length xs ≡ p + 1 + i → rest ≡ v / 256 ^ i → drop (p + 1) xs ≡ digits_in_base 256 i v → drop p (set xs p (rest % 256)) ≡ digits_in_base 256 (i + 1) v
one_more xs v rest i p len is_rest so_far =
    drop-set xs p (rest % 256) (omega arith) ∙ ap (λ l. rest % 256 ∷ l) so_far ∙ ap (λ r. r % 256 ∷ digits_in_base 256 i v) is_rest ∙ sym (digits_more 256 i v)

pub loop-i-preserved : goal.loop-i-preserved
loop-i-preserved c =
    let at_i : length c.loop-i.to - c.loop-i.i ≡ length c.loop-i.to - 1 - c.loop-i.i + 1 = omega arith in
    let at_p : length (set c.loop-i.to (length c.loop-i.to - 1 - c.loop-i.i) (c.loop-i.rest % 256)) - (c.loop-i.i + 1) ≡ length c.loop-i.to - 1 - c.loop-i.i = omega (arith, length-set c.loop-i.to (length c.loop-i.to - 1 - c.loop-i.i) (c.loop-i.rest % 256)) in
    let made = one_more c.loop-i.to c.args.v c.loop-i.rest c.loop-i.i (length c.loop-i.to - 1 - c.loop-i.i) (omega arith) c.loop-i.invariant.0 (rw at_i at c.loop-i.invariant.1) in (
      ap (λ r. r / 256) c.loop-i.invariant.0 ∙ div-div-eq-div-mul c.args.v (256 ^ c.loop-i.i) 256 ∙ ap (λ n. c.args.v / n) (sym (pow_more 256 c.loop-i.i)),
      rw at_p made,
    )

pub returns-clause-read_back : goal.returns-clause-read_back
returns-clause-read_back c =
    let at_end : length c.loop-i.to - c.loop-i.i ≡ 0 = omega arith in
    let whole : c.loop-i.i ≡ length c.args.to.now = omega arith in
    let written : c.loop-i.to ≡ digits_in_base 256 (length c.args.to.now) c.args.v = rw whole at (rw at_end at c.loop-i.invariant.1) in
    ap (number_in_base 256) written
    ∙ number_in_base-digits_fitting 256 (length c.args.to.now) c.args.v (omega arith) (c.fits.ensures.0 c.if-not-fits.false)
