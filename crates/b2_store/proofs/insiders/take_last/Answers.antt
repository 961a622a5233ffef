use Rattle.std.proofs.Common.{sym, ap, ◌∙◌}
use Rattle.b2_store.proofs.Entries.{left_alone, taken_before}
use Rattle.b2_store.proofs.insiders.take_last.Goals as goal

pub returns-then-eq : goal.returns-then-eq
returns-then-eq c =
    c.remove.ensures.items
    ∙ taken_before c.args.p c.loop-place.place c.index.result.now c.loop-place.parts.items c.args.parts.now.items (ap (λ v. v.items) c.loop-place.invariant.0) c.loop-place-test.true c.loop-place.invariant.2
    c.index.ensures (sym c.eq.ensures ∙ c.if-eq.true) c.loop-place.invariant.1

pub returns : goal.returns
returns c = left_alone c.args.p c.loop-place.place c.loop-place.parts.items c.args.parts.now.items (ap (λ v. v.items) c.loop-place.invariant.0) c.loop-place-test.false c.loop-place.invariant.1
