use Rattle.std.proofs.Common.{◌≡◌, ◌*◌, ◌≤◌, ℕ, List, length, refl, arith, subst, sym, ◌∙◌, ap}
use Rattle.b2_platter.specs.Layout.{layout_of}
use Rattle.b2_platter.specs.Checks.{IsGood}
use Rattle.b2_platter.proofs.Layouts.{own_good, own_fits}
use Rattle.b2_platter.specs.Edits.{formatted, CanFormat}
use Rattle.b2_platter.proofs.Puts.{overwritten}
use Rattle.b2_platter.proofs.Goodness.{sectors_of_good}
use Rattle.b2_platter.proofs.Fresh.{formatted_good, length-formatted}
use Rattle.b2_platter.proofs.platter.Platter.put_index.Goals as goal

pub image_head-image_head-requires-clause-total_fits : goal.image_head-image_head-requires-clause-total_fits
image_head-image_head-requires-clause-total_fits c =
    rw (c.layout-layout.ensures, c.sectors.ensures.value) (own_fits c.args.self.now c.sectors.ensures.good _ (omega arith))

pub image_head-image_head-requires-clause-end_fits : goal.image_head-image_head-requires-clause-end_fits
image_head-image_head-requires-clause-end_fits c =
    rw c.layout-layout.ensures (own_fits c.args.self.now c.sectors.ensures.good _ c.requires.within)

pub invariant_of-self : goal.invariant_of-self
invariant_of-self c =
    let image = c.self.inside.bytes.items in
    let can : CanFormat (layout_of image) image c.args.index c.args.end = rw c.self.view_is c.requires in
    let made : c.clear.new.bytes ≡ formatted (layout_of image) image c.args.index c.args.end = c.clear.ensures ∙ rw (c.image_head-image_head.ensures, c.layout-layout.ensures, c.deref_mut.ensures.value, c.sectors.ensures.value, ← c.self.view_is) refl in
    let whole = sectors_of_good (layout_of image) image c.self.invariant in
    let room : 256 * c.args.index ≤ length image = omega (arith, whole, can.order, can.within) in
    let all : length c.clear.new.bytes ≡ length image = ap length made ∙ length-formatted (layout_of image) image c.args.index c.args.end can.some room in
    subst (λ (xs : List ℕ). IsGood xs) (sym (overwritten c.clear.new.bytes image c.self.inside.bytes.len (sym (ap length c.deref_mut.ensures.value) ∙ c.deref_mut.ensures.len) all ∙ made)) (own_good _ _ (formatted_good (layout_of image) image c.args.index c.args.end c.self.invariant can))
