use Rattle.std.proofs.Common.{◌∙◌, ap, sym, subst, ℕ, replicate}
use Rattle.b2_vars.specs.Block.{IsLaid, BlockState}
use Rattle.b2_vars.proofs.Adding.{laid-empty}
use Rattle.b2_vars.proofs.ReadEntries.{entries-laid}
use Rattle.b2_vars.proofs.block.Block.clear.Goals as goal

pub invariant_of-self : goal.invariant_of-self
invariant_of-self c =
    let places = c.forget.ensures ∙ ap (λ (n : ℕ). replicate n 0) c.self.invariant.named in
    let laid = laid-empty c.self.inside.bytes.items c.forget.new.places.items c.self.invariant.short places in
    subst (IsLaid c.self.inside.bytes.items 0 c.forget.new.places.items) (sym (entries-laid _ _ _ _ laid)) laid

pub returns : goal.returns
returns c =
    let places = c.forget.ensures ∙ ap (λ (n : ℕ). replicate n 0) c.self.invariant.named in
    let laid = laid-empty c.self.inside.bytes.items c.forget.new.places.items c.self.invariant.short places in
    let area = ap (λ (b : BlockState). b.area) c.self.view_is in
    λ i. record { area = area i; entries = entries-laid _ _ _ _ laid i }
