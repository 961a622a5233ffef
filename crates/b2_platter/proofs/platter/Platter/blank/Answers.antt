use Rattle.std.proofs.Common.{◌≡◌, ◌*◌, ℕ, List, length, arith, subst, sym, ◌∙◌, ap}
use Rattle.b2_platter.specs.Layout.{by_version}
use Rattle.b2_platter.specs.Checks.{IsGood}
use Rattle.b2_platter.proofs.Layouts.{own_good}
use Rattle.b2_platter.specs.Edits.{blank_image}
use Rattle.b2_platter.proofs.Puts.{overwritten}
use Rattle.b2_platter.proofs.Fresh.{blank_good, blank_made, length-blank_image}
use Rattle.b2_platter.proofs.platter.Platter.blank.Goals as goal

pub invariant_of-result : goal.invariant_of-result
invariant_of-result c =
    let long : length c.in_ok-bytes.bytes.items ≡ 256 * c.args.sectors = sym (ap length c.deref_mut.ensures.value) ∙ c.deref_mut.ensures.len ∙ c.in_ok-bytes.ensures.len in
    let made : c.clear.new.bytes ≡ blank_image (by_version c.args.version) c.args.sectors = c.clear.ensures ∙ rw (c.image_head.ensures, c.by_version-layout.ensures, c.deref_mut.ensures.value) (blank_made (by_version c.args.version) c.args.sectors c.in_ok-bytes.bytes.items long) in
    let all : length c.clear.new.bytes ≡ length c.in_ok-bytes.bytes.items = ap length made ∙ length-blank_image (by_version c.args.version) c.args.sectors (omega arith) ∙ sym long in
    subst (λ (xs : List ℕ). IsGood xs) (sym (overwritten c.clear.new.bytes c.in_ok-bytes.bytes.items c.in_ok-bytes.bytes.len (sym (ap length c.deref_mut.ensures.value) ∙ c.deref_mut.ensures.len) all ∙ made)) (own_good (by_version c.args.version) _ (blank_good (by_version c.args.version) c.args.sectors c.requires.least c.requires.most))
