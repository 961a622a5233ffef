use Rattle.std.proofs.Common.{◌≡◌, ◌+◌, ◌<◌, ◌∷◌, sym, ap, ◌∙◌, arith}
use Rattle.b2_pack.specs.declared.specification.Pair.TheVariants as pair
use Rattle.b2_pack.specs.Specification.{specified_pairs}
use Rattle.b2_pack.specs.Packing.{placed_from, lacks_room}
use Rattle.b2_pack.proofs.PackingLemmas.{lacks_room-past}
use Rattle.b2_pack.proofs.packing.next_field.Goals as goal

pub returns-then-width-room : goal.returns-then-width-room
returns-then-width-room c =
    let start = c.loop-pair.start in
    let first : specified_pairs c.loop-pair.rest.now ≡ pair.Skip c.in-Skip.width ∷ specified_pairs c.in-Some.after.now =
    c.in-Some.ensures.pairs ∙ ap (λ p. p ∷ specified_pairs c.in-Some.after.now) c.in-Skip.is in
    let far : c.args.room < start + c.in-Skip.width = omega arith in
    ap (λ ps. lacks_room ps c.args.room) (sym c.loop-pair.invariant.same ∙ ap (placed_from start) first)
    ∙ lacks_room-past (specified_pairs c.in-Some.after.now) (start + c.in-Skip.width) c.args.room far
