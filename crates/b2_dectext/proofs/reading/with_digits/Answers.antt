use Rattle.std.proofs.Common.{◌≡◌, ◌<◌, ◌+◌, ◌-◌, ◌*◌, get_or, take, length, sym, subst, arith}
use Rattle.std.proofs.lemmas.List.Sums.{fold_more}
use Rattle.b2_dectext.specs.Digits.{IsLeading, value_after}
use Rattle.b2_dectext.proofs.reading.with_digits.Goals as goal

pub loop-byte-preserved : goal.loop-byte-preserved
loop-byte-preserved c =
    let i = c.loop-byte.byte-index in
    let text = c.args.text.now in
    let below : i < length text = omega arith in
    record {
      few = omega arith;
      read = λ n h.
          let more : value_after n (take (i + 1) text) ≡ 10 * value_after n (take i text) + (get_or text i 0 - 48) = fold_more (λ m d. 10 * m + (d - 48)) n text i 0 below in
          subst (λ v. IsLeading v c.with_digit-leading.result.digits c.with_digit-leading.result.more) (sym more)
          (c.with_digit-leading.ensures.value _ (c.loop-byte.invariant.read n h));
    }
