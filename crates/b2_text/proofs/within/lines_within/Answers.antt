use Rattle.std.proofs.Common.{◌+◌, sym, arith}
use Rattle.b2_text.proofs.AtNumbers.{ascending, in_order, range_in}
use Rattle.b2_text.proofs.within.lines_within.Goals as goal

pub find-at-requires : goal.find-at-requires
find-at-requires c = ascending c.args.block.now.items c.args.places.now.items c.requires.ordered

pub returns : goal.returns
returns c =
    let places = c.args.places.now.items in
    let order = c.requires.order in
    sym (range_in c.args.block.now.items c.args.from c.args.to places c.find-at.result c.place_after-end.result
    (in_order c.args.from (c.args.to + 1) c.find-at.result c.place_after-end.result places (omega (arith, order)) c.find-at.ensures c.place_after-end.ensures)
    c.find-at.ensures c.place_after-end.ensures)
