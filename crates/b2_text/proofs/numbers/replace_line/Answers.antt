use Rattle.std.proofs.Common.{◌+◌, ◌<◌, ◌∙◌, length, arith}
use Rattle.b2_text.specs.Blocks.{lines_laid}
use Rattle.b2_text.proofs.Blocks.{count_laid, length_laid}
use Rattle.b2_text.proofs.Replacing.{replaced}
use Rattle.b2_text.proofs.Spans.{count_kept, count_spans, kept_cut, kept_put}
use Rattle.b2_text.proofs.numbers.replace_line.Goals as goal

pub cut_lines-requires-clause-units : goal.cut_lines-requires-clause-units
cut_lines-requires-clause-units c =
    let counted = count_spans (lines_laid c.args.block.now.items c.args.places.now.items) c.args.units.now.items c.requires.kept in
    omega (arith, counted)

pub put_line-requires-clause-spans : goal.put_line-requires-clause-spans
put_line-requires-clause-spans c = count_kept c.args.atoms.now c.args.spans.now c.requires.spans

pub put_line-requires-clause-within : goal.put_line-requires-clause-within
put_line-requires-clause-within c =
    let ls = lines_laid c.args.block.now.items c.args.places.now.items in
    let ms = lines_laid c.cut_lines.new.block.items c.cut_lines.new.places.items in
    let before = count_laid c.args.block.now.items c.args.places.now.items in
    let after = count_laid c.cut_lines.new.block.items c.cut_lines.new.places.items in
    let there = c.requires.there in
    let inside : c.args.i < length ls = omega (arith, before, there) in
    let left = (replaced c.args.i c.args.n c.args.atoms.now ls ms inside c.cut_lines.ensures.lines).within in
    omega (arith, left, after)

pub put_line-requires-clause-small : goal.put_line-requires-clause-small
put_line-requires-clause-small c =
    let ls = lines_laid c.args.block.now.items c.args.places.now.items in
    let ms = lines_laid c.cut_lines.new.block.items c.cut_lines.new.places.items in
    let before = count_laid c.args.block.now.items c.args.places.now.items in
    let there = c.requires.there in
    let inside : c.args.i < length ls = omega (arith, before, there) in
    let size = (replaced c.args.i c.args.n c.args.atoms.now ls ms inside c.cut_lines.ensures.lines).size in
    let long = length_laid c.cut_lines.new.block.items c.cut_lines.new.places.items c.cut_lines.ensures.laid in
    let small = c.requires.small in
    omega (arith, size, long, small)

pub put_line-requires-clause-room : goal.put_line-requires-clause-room
put_line-requires-clause-room c =
    let ls = lines_laid c.args.block.now.items c.args.places.now.items in
    let ms = lines_laid c.cut_lines.new.block.items c.cut_lines.new.places.items in
    let before = count_laid c.args.block.now.items c.args.places.now.items in
    let there = c.requires.there in
    let inside : c.args.i < length ls = omega (arith, before, there) in
    let size = (replaced c.args.i c.args.n c.args.atoms.now ls ms inside c.cut_lines.ensures.lines).size in
    let long = length_laid c.cut_lines.new.block.items c.cut_lines.new.places.items c.cut_lines.ensures.laid in
    let room = c.requires.room in
    let same = c.cut_lines.ensures.capacity in
    omega (arith, size, long, room, same)

pub put_line-requires-clause-index_room : goal.put_line-requires-clause-index_room
put_line-requires-clause-index_room c =
    let ls = lines_laid c.args.block.now.items c.args.places.now.items in
    let ms = lines_laid c.cut_lines.new.block.items c.cut_lines.new.places.items in
    let before = count_laid c.args.block.now.items c.args.places.now.items in
    let after = count_laid c.cut_lines.new.block.items c.cut_lines.new.places.items in
    let there = c.requires.there in
    let inside : c.args.i < length ls = omega (arith, before, there) in
    let count = (replaced c.args.i c.args.n c.args.atoms.now ls ms inside c.cut_lines.ensures.lines).count in
    let room = c.requires.index_room in
    let same = c.cut_lines.ensures.index_capacity in
    omega (arith, count, before, after, room, same)

pub put_line-requires-clause-units_room : goal.put_line-requires-clause-units_room
put_line-requires-clause-units_room c =
    let ls = lines_laid c.args.block.now.items c.args.places.now.items in
    let ms = lines_laid c.cut_lines.new.block.items c.cut_lines.new.places.items in
    let before = count_laid c.args.block.now.items c.args.places.now.items in
    let there = c.requires.there in
    let inside : c.args.i < length ls = omega (arith, before, there) in
    let units = (replaced c.args.i c.args.n c.args.atoms.now ls ms inside c.cut_lines.ensures.lines).units in
    let counted = c.cut_lines.ensures.counted in
    let spans = count_kept c.args.atoms.now c.args.spans.now c.requires.spans in
    let room = c.requires.units_room in
    let same = c.cut_lines.ensures.units_capacity in
    omega (arith, units, counted, spans, room, same)

pub returns-clause-lines : goal.returns-clause-lines
returns-clause-lines c =
    let ls = lines_laid c.args.block.now.items c.args.places.now.items in
    let ms = lines_laid c.cut_lines.new.block.items c.cut_lines.new.places.items in
    let before = count_laid c.args.block.now.items c.args.places.now.items in
    let there = c.requires.there in
    let inside : c.args.i < length ls = omega (arith, before, there) in
    c.put_line.ensures.lines ∙ (replaced c.args.i c.args.n c.args.atoms.now ls ms inside c.cut_lines.ensures.lines).lines

pub returns-clause-kept : goal.returns-clause-kept
returns-clause-kept c =
    let ls = lines_laid c.args.block.now.items c.args.places.now.items in
    let ms = lines_laid c.cut_lines.new.block.items c.cut_lines.new.places.items in
    let left =
    kept_cut c.args.i (c.args.i + 1) c.args.units.now.items c.cut_lines.new.units.items ls ms c.requires.kept c.cut_lines.ensures.lines c.cut_lines.ensures.units in
    kept_put c.args.i c.args.n c.args.atoms.now c.args.spans.now c.cut_lines.new.units.items c.put_line.new.units.items ms
    (lines_laid c.put_line.new.block.items c.put_line.new.places.items) c.requires.spans left c.put_line.ensures.lines c.put_line.ensures.units
