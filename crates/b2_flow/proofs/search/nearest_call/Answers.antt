use Rattle.std.proofs.Common.{◌≡◌, ◌∙◌, ◌∷◌, reverse, sym, ap}
use Rattle.b2_flow.specs.declared.frame.Frame.TheVariants.{For, Call}
use Rattle.b2_flow.specs.Stacks.{has_call, from_call}
use Rattle.b2_flow.proofs.Searching.{take_below, top_first}
use Rattle.b2_flow.proofs.search.nearest_call.Goals as goal

pub returns-in-Call-clause-call : goal.returns-in-Call-clause-call
returns-in-Call-clause-call c =
    let top : reverse c.loop-frame.rest.now ≡ Call c.in-Call.back c.in-Call.entered ∷ reverse c.in-Some.below.now = rw (sym c.in-Call.is) (top_first _ _ _ c.in-Some.ensures.cases.0) in
    rw (take_below _ _ _ _ c.in-Some.ensures.cases.0 c.in-Some.ensures.cases.1 c.loop-frame.invariant.lowest) (sym c.loop-frame.invariant.kept ∙ ap from_call top)

pub loop-frame-preserved : goal.loop-frame-preserved
loop-frame-preserved c =
    let top : reverse c.loop-frame.rest.now ≡ For c.in_default-frame.field-0 c.in_default-frame.field-1 c.in_default-frame.field-2 c.in_default-frame.field-3 ∷ reverse c.in-Some.below.now = rw (sym c.in_default-frame.is) (top_first _ _ _ c.in-Some.ensures.cases.0) in
    record {
      found = sym (ap has_call top) ∙ c.loop-frame.invariant.found;
      kept = sym (ap from_call top) ∙ c.loop-frame.invariant.kept;
      lowest = take_below _ _ _ _ c.in-Some.ensures.cases.0 c.in-Some.ensures.cases.1 c.loop-frame.invariant.lowest;
    }
