use Rattle.std.proofs.Common.{arith}
use Rattle.b2_text.specs.Blocks.{lines_laid}
use Rattle.b2_text.proofs.Blocks.{Cut, cut_out, units_cut, length_laid, sizes_rise, units_rise, units_few, within_block, within_units}
use Rattle.b2_text.proofs.block.cut_lines.Goals as goal

pub take_out-requires-clause-order : goal.take_out-requires-clause-order
take_out-requires-clause-order g c = sizes_rise c.args.i c.args.j _ _ _ c.requires.order c.begin_of-from.ensures.start c.begin_of-to.ensures.start

pub take_out-requires-clause-within : goal.take_out-requires-clause-within
take_out-requires-clause-within g c =
    let inside = within_block c.args.j c.begin_of-to.result.0 c.args.block.now.items c.args.places.now.items c.requires.laid c.begin_of-to.ensures.start in
    omega (arith, inside)

pub overflow_sub-to : goal.overflow_sub-to
overflow_sub-to g c = sizes_rise c.args.i c.args.j _ _ _ c.requires.order c.begin_of-from.ensures.start c.begin_of-to.ensures.start

pub overflow_cast-to : goal.overflow_cast-to
overflow_cast-to g c =
    let inside = within_block c.args.j c.begin_of-to.result.0 c.args.block.now.items c.args.places.now.items c.requires.laid c.begin_of-to.ensures.start in
    let small = c.requires.small in
    omega (arith, inside, small)

pub overflow_sub-end : goal.overflow_sub-end
overflow_sub-end g c = units_rise c.args.i c.args.j _ _ _ c.requires.order c.begin_of-from.ensures.first c.begin_of-to.ensures.first

pub overflow_cast-end : goal.overflow_cast-end
overflow_cast-end g c =
    let lines = lines_laid c.args.block.now.items c.args.places.now.items in
    let inside = within_units c.args.j c.begin_of-to.result.1 lines c.begin_of-to.ensures.first in
    let few = units_few lines in
    let whole = length_laid c.args.block.now.items c.args.places.now.items c.requires.laid in
    let small = c.requires.small in
    omega (arith, inside, few, whole, small)

pub take_out-requires-2-clause-order : goal.take_out-requires-2-clause-order
take_out-requires-2-clause-order g c = units_rise c.args.i c.args.j _ _ _ c.requires.order c.begin_of-from.ensures.first c.begin_of-to.ensures.first

pub take_out-requires-2-clause-within : goal.take_out-requires-2-clause-within
take_out-requires-2-clause-within g c =
    let inside = within_units c.args.j c.begin_of-to.result.1 (lines_laid c.args.block.now.items c.args.places.now.items) c.begin_of-to.ensures.first in
    let all = c.requires.units in
    omega (arith, inside, all)

pub returns-clause-laid : goal.returns-clause-laid
returns-clause-laid g c =
    let cut : Cut c.args.i c.args.j c.args.block.now.items c.take_out.new.row.items c.args.places.now.items c.cut_places.new.places.items =
    cut_out c.args.i c.args.j c.begin_of-from.result.0 c.begin_of-to.result.0 c.begin_of-from.result.1 c.begin_of-to.result.1
    c.args.block.now.items c.take_out.new.row.items c.args.places.now.items c.cut_places.new.places.items
    c.requires.laid c.requires.order c.begin_of-from.ensures.start c.begin_of-to.ensures.start c.begin_of-from.ensures.first c.begin_of-to.ensures.first
    c.take_out.ensures.items c.cut_places.ensures.items in
    cut.laid

pub returns-clause-lines : goal.returns-clause-lines
returns-clause-lines g c =
    let cut : Cut c.args.i c.args.j c.args.block.now.items c.take_out.new.row.items c.args.places.now.items c.cut_places.new.places.items =
    cut_out c.args.i c.args.j c.begin_of-from.result.0 c.begin_of-to.result.0 c.begin_of-from.result.1 c.begin_of-to.result.1
    c.args.block.now.items c.take_out.new.row.items c.args.places.now.items c.cut_places.new.places.items
    c.requires.laid c.requires.order c.begin_of-from.ensures.start c.begin_of-to.ensures.start c.begin_of-from.ensures.first c.begin_of-to.ensures.first
    c.take_out.ensures.items c.cut_places.ensures.items in
    cut.lines

pub returns-clause-counted : goal.returns-clause-counted
returns-clause-counted g c =
    let lines = lines_laid c.args.block.now.items c.args.places.now.items in
    let all = c.requires.units in
    let counted =
    units_cut c.args.i c.args.j c.begin_of-from.result.1 c.begin_of-to.result.1 c.args.units.now.items c.take_out-2.new.row.items lines (lines_laid c.take_out.new.row.items c.cut_places.new.places.items)
    (omega (arith, all)) c.begin_of-from.ensures.first c.begin_of-to.ensures.first c.requires.order c.take_out-2.ensures.items (returns-clause-lines g c) in
    omega (arith, counted)
