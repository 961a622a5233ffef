use Rattle.std.proofs.Common.{◌∙◌, Some, ap, arith, sym}
use Rattle.b2_text.proofs.AtNumbers.{ascending, line_none, line_there}
use Rattle.b2_text.proofs.Numbering.{not_sought, place_at, sought}
use Rattle.b2_text.proofs.line.line_of.Goals as goal

pub line_placed-requires-clause-there : goal.line_placed-requires-clause-there
line_placed-requires-clause-there c =
    let h = sought c.args.block.now.items c.args.places.now.items c.args.table.now.items c.args.n c.seek-place.result c.requires.numbered c.seek-place.ensures (omega (arith, c.if-place-eq0.false)) in
    let inside = h.inside in
    omega (arith, inside)

pub returns-then-place-eq0-clause-atoms : goal.returns-then-place-eq0-clause-atoms
returns-then-place-eq0-clause-atoms c =
    let block = c.args.block.now.items in
    let places = c.args.places.now.items in
    sym (line_none block c.args.n places (not_sought block places c.args.table.now.items c.args.n c.seek-place.result c.requires.numbered c.seek-place.ensures c.if-place-eq0.true))

pub returns-clause-atoms : goal.returns-clause-atoms
returns-clause-atoms c =
    let block = c.args.block.now.items in
    let places = c.args.places.now.items in
    let n = c.args.n in
    let h = sought block places c.args.table.now.items n c.seek-place.result c.requires.numbered c.seek-place.ensures (omega (arith, c.if-place-eq0.false)) in
    let ordered = ascending block places c.requires.ordered in
    ap Some c.line_placed.ensures.atoms ∙ sym (line_there block n places _ (place_at n _ places ordered h.inside h.number) h.inside h.number)

pub returns-clause-number : goal.returns-clause-number
returns-clause-number c =
    let h = sought c.args.block.now.items c.args.places.now.items c.args.table.now.items c.args.n c.seek-place.result c.requires.numbered c.seek-place.ensures (omega (arith, c.if-place-eq0.false)) in
    c.line_placed.ensures.number ∙ h.number
