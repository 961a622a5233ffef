use Rattle.std.proofs.Common.{◌≡◌, ◌<◌, ◌≤◌, ℕ, List, length, subst, sym, ◌∙◌, ap}
use Rattle.b2_platter.specs.Layout.{layout_of}
use Rattle.b2_platter.specs.Image.{catalogue_end, total_of}
use Rattle.b2_platter.specs.Checks.{IsGood}
use Rattle.b2_platter.proofs.Layouts.{own_good}
use Rattle.b2_platter.specs.Edits.{put_sector}
use Rattle.b2_platter.proofs.Puts.{overwritten, length-put_sector}
use Rattle.b2_platter.proofs.SpareSectors.{spare_room, spare-good}
use Rattle.b2_platter.proofs.platter.Platter.put_spare.Goals as goal

pub put_sector-requires : goal.put_sector-requires
put_sector-requires c =
    let image = c.self.inside.bytes.items in
    let low : catalogue_end (layout_of image) image ≤ c.args.n = rw c.self.view_is c.requires.low in
    let high : c.args.n < total_of (layout_of image) image = rw c.self.view_is c.requires.high in
    rw c.deref_mut.ensures.value (spare_room (layout_of image) image c.self.invariant c.args.n low high)

pub invariant_of-self : goal.invariant_of-self
invariant_of-self c =
    let image = c.self.inside.bytes.items in
    let low : catalogue_end (layout_of image) image ≤ c.args.n = rw c.self.view_is c.requires.low in
    let high : c.args.n < total_of (layout_of image) image = rw c.self.view_is c.requires.high in
    let good = spare-good (layout_of image) image c.self.invariant c.args.n low high c.args.b.now c.told-b in
    let new : c.put_sector.new.image ≡ put_sector image c.args.n c.args.b.now = c.put_sector.ensures ∙ ap (λ (xs : List ℕ). put_sector xs c.args.n c.args.b.now) c.deref_mut.ensures.value in
    let long : length c.put_sector.new.image ≡ length image = ap length new ∙ length-put_sector image c.args.n c.args.b.now c.told-b (spare_room (layout_of image) image c.self.invariant c.args.n low high) in
    subst (λ (xs : List ℕ). IsGood xs) (sym (overwritten c.put_sector.new.image image c.self.inside.bytes.len (sym (ap length c.deref_mut.ensures.value) ∙ c.deref_mut.ensures.len) long ∙ new)) (own_good _ _ good)
