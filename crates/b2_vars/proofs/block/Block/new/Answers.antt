use Rattle.std.proofs.Common.{◌∙◌, sym, subst, arith}
use Rattle.b2_vars.specs.Block.{IsLaid}
use Rattle.b2_vars.proofs.Adding.{laid-empty}
use Rattle.b2_vars.proofs.ReadEntries.{entries-laid}
use Rattle.b2_vars.proofs.block.Block.new.Goals as goal

pub invariant_of-result : goal.invariant_of-result
invariant_of-result c =
    let laid = laid-empty c.in_ok-vec.field-0.items c.in_ok-no_places.field-0.items (omega (arith, c.if-area-gt-MOST_AREA.false, c.in_ok-vec.field-0.ok.0, c.in_ok-vec.ensures.len)) c.in_ok-no_places.ensures in
    subst (IsLaid c.in_ok-vec.field-0.items 0 c.in_ok-no_places.field-0.items) (sym (entries-laid _ _ _ _ laid)) laid

pub returns : goal.returns
returns c =
    let laid = laid-empty c.in_ok-vec.field-0.items c.in_ok-no_places.field-0.items (omega (arith, c.if-area-gt-MOST_AREA.false, c.in_ok-vec.field-0.ok.0, c.in_ok-vec.ensures.len)) c.in_ok-no_places.ensures in
    let area = sym c.in_ok-vec.field-0.ok.0 ∙ c.in_ok-vec.ensures.len in
    λ i. record { area = area i; entries = entries-laid _ _ _ _ laid i }
