use Rattle.std.proofs.Common.{length, arith}
use Rattle.b2_text.specs.Blocks.{lines_laid}
use Rattle.b2_text.proofs.Blocks.{Put, put_one, units_put, with_heading, with_units, few_units, length_laid, units_few, within_block, within_units}
use Rattle.b2_text.proofs.block.put_line.Goals as goal

pub overflow_cast-place : goal.overflow_cast-place
overflow_cast-place g c =
    let inside = within_block c.args.i c.begin_of-start.result.0 c.args.block.now.items c.args.places.now.items c.requires.laid c.begin_of-start.ensures.start in
    let small = c.requires.small in
    omega (arith, inside, small)

pub overflow_cast-place-2 : goal.overflow_cast-place-2
overflow_cast-place-2 g c =
    let lines = lines_laid c.args.block.now.items c.args.places.now.items in
    let inside = within_units c.args.i c.begin_of-start.result.1 lines c.begin_of-start.ensures.first in
    let few = units_few lines in
    let whole = length_laid c.args.block.now.items c.args.places.now.items c.requires.laid in
    let small = c.requires.small in
    omega (arith, inside, few, whole, small)

pub overflow_cast-place-4 : goal.overflow_cast-place-4
overflow_cast-place-4 g c =
    let few = few_units c.args.atoms.now in
    let short = c.requires.short in
    let same = c.requires.spans in
    omega (arith, few, short, same)

pub put_line_bytes-requires-clause-place : goal.put_line_bytes-requires-clause-place
put_line_bytes-requires-clause-place g c =
    let inside = within_block c.args.i c.begin_of-start.result.0 c.args.block.now.items c.args.places.now.items c.requires.laid c.begin_of-start.ensures.start in
    omega (arith, inside)

pub overflow_cast-spans : goal.overflow_cast-spans
overflow_cast-spans g c =
    let few = few_units c.args.atoms.now in
    let short = c.requires.short in
    let same = c.requires.spans in
    omega (arith, few, short, same)

pub put_in-requires-clause-place : goal.put_in-requires-clause-place
put_in-requires-clause-place g c =
    let inside = within_units c.args.i c.begin_of-start.result.1 (lines_laid c.args.block.now.items c.args.places.now.items) c.begin_of-start.ensures.first in
    let all = c.requires.units in
    omega (arith, inside, all)

pub returns-clause-laid : goal.returns-clause-laid
returns-clause-laid g c =
    let block = c.args.block.now.items in
    let places = c.args.places.now.items in
    let lines = lines_laid block places in
    let p = c.begin_of-start.result.0 in
    let u = c.begin_of-start.result.1 in
    let small = c.requires.small in
    let whole = length_laid block places c.requires.laid in
    let some = units_few lines in
    let few = few_units c.args.atoms.now in
    let put : Put c.args.i c.args.n c.args.atoms.now block c.put_line_bytes.new.block.items places c.put_place.new.places.items =
    put_one c.args.i c.args.n p u c.args.atoms.now block c.put_line_bytes.new.block.items places c.put_place.new.places.items c.requires.laid
    c.begin_of-start.ensures.start c.begin_of-start.ensures.first (omega (arith, small)) (omega (arith, small, whole, some, few))
    (with_heading c.args.n p c.args.atoms.now c.args.heading.now block c.put_line_bytes.new.block.items c.requires.heading c.put_line_bytes.ensures.items)
    (with_units c.args.i c.args.n p u (length c.args.spans.now) c.args.atoms.now places c.put_place.new.places.items c.requires.spans c.put_place.ensures.items) in
    put.laid

pub returns-clause-lines : goal.returns-clause-lines
returns-clause-lines g c =
    let block = c.args.block.now.items in
    let places = c.args.places.now.items in
    let lines = lines_laid block places in
    let p = c.begin_of-start.result.0 in
    let u = c.begin_of-start.result.1 in
    let small = c.requires.small in
    let whole = length_laid block places c.requires.laid in
    let some = units_few lines in
    let few = few_units c.args.atoms.now in
    let put : Put c.args.i c.args.n c.args.atoms.now block c.put_line_bytes.new.block.items places c.put_place.new.places.items =
    put_one c.args.i c.args.n p u c.args.atoms.now block c.put_line_bytes.new.block.items places c.put_place.new.places.items c.requires.laid
    c.begin_of-start.ensures.start c.begin_of-start.ensures.first (omega (arith, small)) (omega (arith, small, whole, some, few))
    (with_heading c.args.n p c.args.atoms.now c.args.heading.now block c.put_line_bytes.new.block.items c.requires.heading c.put_line_bytes.ensures.items)
    (with_units c.args.i c.args.n p u (length c.args.spans.now) c.args.atoms.now places c.put_place.new.places.items c.requires.spans c.put_place.ensures.items) in
    put.lines

pub returns-clause-counted : goal.returns-clause-counted
returns-clause-counted g c =
    let lines = lines_laid c.args.block.now.items c.args.places.now.items in
    let all = c.requires.units in
    let counted =
    units_put c.args.i c.args.n c.begin_of-start.result.1 c.args.atoms.now c.args.units.now.items c.args.spans.now c.put_in.new.row.items lines (lines_laid c.put_line_bytes.new.block.items c.put_place.new.places.items)
    (omega (arith, all)) c.begin_of-start.ensures.first c.requires.spans c.put_in.ensures.items (returns-clause-lines g c) in
    omega (arith, counted)
