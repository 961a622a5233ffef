use Rattle.std.proofs.Common.{true, false, not, ap, sym, ◌∙◌, ◌≡◌, Less, Greater}
use Rattle.std.specs.Cmp.{int_cmp_is}
use borrow.Author.Tests.{not-true}
use Rattle.b2_dec.specs.Number.{value}
use Rattle.b2_dec.proofs.Nearby.{other_sign}
use Rattle.b2_dec.proofs.Ranks.{value-less}
use Rattle.b2_dec.proofs.order.cmp.Goals as goal

pub returns-then-p : goal.returns-then-p
returns-then-p c =
    let other : c.args.b.neg ≡ not c.args.a.neg = other_sign _ _ _ _ (not-true _ c.if-p-q.true) c.is_negative-p.ensures.value c.is_negative-q.ensures.value in
    let here : c.args.a.neg ≡ true = sym c.is_negative-p.ensures.value ∙ c.if-p.true in
    int_cmp_is (value c.args.a) (value c.args.b) Less (value-less c.args.a c.args.b c.is_negative-p.ensures.spelling here (other ∙ ap not here))

pub returns-else-p : goal.returns-else-p
returns-else-p c =
    let other : c.args.b.neg ≡ not c.args.a.neg = other_sign _ _ _ _ (not-true _ c.if-p-q.true) c.is_negative-p.ensures.value c.is_negative-q.ensures.value in
    let here : c.args.a.neg ≡ false = sym c.is_negative-p.ensures.value ∙ c.if-p.false in
    int_cmp_is (value c.args.a) (value c.args.b) Greater (value-less c.args.b c.args.a c.is_negative-q.ensures.spelling (other ∙ ap not here) here)
