use Rattle.std.proofs.Common.{◌≡◌, ◌∙◌, ◌∷◌, reverse, false, sym, ap}
use Rattle.b2_flow.specs.declared.frame.Frame.TheVariants.{For}
use Rattle.b2_flow.specs.Frames.{is_same_variable}
use Rattle.b2_flow.specs.Stacks.{has_loop, from_loop}
use Rattle.b2_flow.proofs.Searching.{has_loop-below, from_loop-below, take_below, top_first}
use Rattle.b2_flow.proofs.search.highest_loop.Goals as goal

pub loop-frame-preserved : goal.loop-frame-preserved
loop-frame-preserved c =
    let other : is_same_variable c.in-For.var c.args.v ≡ false = sym c.eq.ensures ∙ c.if-eq.false in
    let top = top_first _ _ _ c.in-Some.ensures.cases.0 in
    let loop : reverse c.loop-frame.rest.now ≡ For c.in-For.var c.in-For.limit c.in-For.step c.in-For.body ∷ reverse c.in-Some.below.now = rw (sym c.in-For.is) top in
    record {
      found = sym (ap (has_loop c.args.v) loop ∙ has_loop-below c.args.v c.in-For.var c.in-For.limit c.in-For.step c.in-For.body (reverse c.in-Some.below.now) other) ∙ c.loop-frame.invariant.found;
      kept = sym (ap (from_loop c.args.v) loop ∙ from_loop-below c.args.v c.in-For.var c.in-For.limit c.in-For.step c.in-For.body (reverse c.in-Some.below.now) other) ∙ c.loop-frame.invariant.kept;
      lowest = take_below _ _ _ _ c.in-Some.ensures.cases.0 c.in-Some.ensures.cases.1 c.loop-frame.invariant.lowest;
    }
