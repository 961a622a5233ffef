use Rattle.std.proofs.Common.{◌≡◌, ◌==◌, ◌<◌, ◌-◌, false, length, get_or, take, sym, ap, arith, eq-eqb, ne_eqb}
use Rattle.std.specs.List.{suffix_len}
use Rattle.std.proofs.lemmas.List.Sums.{suffix_len_is}
use Rattle.b2_dectext.proofs.printing.without_last_zeros.Goals as goal
use Rattle.b2_dectext.proofs.printing.without_last_zeros.Goals.{then-loop-kept-test+else-digits-kept-eq48, else-loop-kept-test}

pub returns : goal.returns
returns c =
    let ds = c.args.digits.now in
    let n = c.loop-kept.kept in
    let last : 0 < n → (get_or ds (n - 1) 0 == 48) ≡ false =
    elim c.loop-kept-test.branch [
      | then-loop-kept-test+else-digits-kept-eq48 w ↦ λ h. ne_eqb _ _ w.if-digits-kept-eq48.false
      | else-loop-kept-test w ↦ λ h. absurd (omega arith)
    ] in
    let zeros : suffix_len (λ d. d == 48) ds ≡ length ds - n =
    suffix_len_is (λ d. d == 48) ds n 0 c.loop-kept.invariant.0 (λ k low high. eq-eqb _ _ (c.loop-kept.invariant.1 k low high)) last in
    let all : length ds - suffix_len (λ d. d == 48) ds ≡ n = omega (arith, c.loop-kept.invariant.0, zeros) in
    sym (ap (λ k. take k ds) all)
