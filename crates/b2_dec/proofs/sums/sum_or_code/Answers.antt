use Rattle.std.proofs.Common.{sym, ◌∙◌, eqb-true}
use Rattle.b2_dec.proofs.Exact.{sum-zero_left, sum-zero_right}
use Rattle.b2_dec.proofs.sums.sum_or_code.Goals as goal

pub returns-then-nothing : goal.returns-then-nothing
returns-then-nothing c =
    c.number.ensures
    ∙ sym (sum-zero_left c.args.m c.args.a c.args.b (eqb-true c.args.a.coef 0 (sym c.is_zero-nothing.ensures.zero ∙ c.if-nothing.true)) c.is_zero-no_change.ensures.spelling)

pub returns-then-no_change : goal.returns-then-no_change
returns-then-no_change c =
    c.number-then-no_change.ensures
    ∙ sym (sum-zero_right c.args.m c.args.a c.args.b (eqb-true c.args.b.coef 0 (sym c.is_zero-no_change.ensures.zero ∙ c.if-no_change.true)) c.is_zero-nothing.ensures.spelling)
