use Rattle.std.proofs.Common.{◌≡◌, ℕ, List, length, true, subst, sym, ◌∙◌, ap}
use Rattle.b2_platter.specs.Layout.{layout_of}
use Rattle.b2_platter.specs.Checks.{IsGood}
use Rattle.b2_platter.proofs.Layouts.{own_good}
use Rattle.b2_platter.specs.Edits.{is_data_sector, put_sector}
use Rattle.b2_platter.proofs.Puts.{overwritten, length-put_sector}
use Rattle.b2_platter.proofs.Kept.{data_room, put_file_good}
use Rattle.b2_platter.proofs.platter.Platter.put_file.Goals as goal

pub put_sector-requires : goal.put_sector-requires
put_sector-requires c =
    let within : is_data_sector (layout_of c.self.inside.bytes.items) c.self.inside.bytes.items c.args.n ≡ true = rw c.self.view_is c.requires in
    rw c.deref_mut.ensures.value (data_room (layout_of c.self.inside.bytes.items) c.self.inside.bytes.items c.self.invariant c.args.n within)

pub invariant_of-self : goal.invariant_of-self
invariant_of-self c =
    let within : is_data_sector (layout_of c.self.inside.bytes.items) c.self.inside.bytes.items c.args.n ≡ true = rw c.self.view_is c.requires in
    let good = put_file_good (layout_of c.self.inside.bytes.items) c.self.inside.bytes.items c.self.invariant c.args.n within c.args.b.now c.told-b in
    let new : c.put_sector.new.image ≡ put_sector c.self.inside.bytes.items c.args.n c.args.b.now = c.put_sector.ensures ∙ ap (λ (xs : List ℕ). put_sector xs c.args.n c.args.b.now) c.deref_mut.ensures.value in
    let long : length c.put_sector.new.image ≡ length c.self.inside.bytes.items = ap length new ∙ length-put_sector c.self.inside.bytes.items c.args.n c.args.b.now c.told-b (data_room (layout_of c.self.inside.bytes.items) c.self.inside.bytes.items c.self.invariant c.args.n within) in
    subst (λ (xs : List ℕ). IsGood xs) (sym (overwritten c.put_sector.new.image c.self.inside.bytes.items c.self.inside.bytes.len (sym (ap length c.deref_mut.ensures.value) ∙ c.deref_mut.ensures.len) long ∙ new)) (own_good _ _ good)
