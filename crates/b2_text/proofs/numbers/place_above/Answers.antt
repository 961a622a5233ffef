use Rattle.b2_text.proofs.AtNumbers.{ascending}
use Rattle.b2_text.proofs.Numbering.{place_past, sought}
use Rattle.b2_text.proofs.numbers.place_above.Goals as goal

pub find-requires : goal.find-requires
find-requires c = ascending c.args.block.now.items c.args.places.now.items c.requires.ordered

pub returns-then-place-gt0 : goal.returns-then-place-gt0
returns-then-place-gt0 c =
    let block = c.args.block.now.items in
    let places = c.args.places.now.items in
    let p = c.seek-place.result in
    let some = c.if-place-gt0.true in
    place_past c.args.n p places (ascending block places c.requires.ordered) some (sought block places c.args.table.now.items c.args.n p c.requires.numbered c.seek-place.ensures some)
