use Rattle.std.proofs.Common.{[], All, ◌≤◌, length, ◌∙◌, ap, sym, subst, arith, nat_cmp}
use Rattle.std.specs.List.Sorted.{IsStrictlySortedBy}
use Rattle.std.specs.Map.{keys_of}
use Rattle.std.proofs.lemmas.Map.Views.{All-keys-insert_entry}
use Rattle.b2_text.specs.Program.{Lines, size_of, with_line}
use Rattle.b2_text.specs.Blocks.{lines_laid, units_in}
use Rattle.b2_text.proofs.AtNumbers.{ascending, none_at, put_new, put_over}
use Rattle.b2_text.proofs.InOrder.{sorted_with}
use Rattle.b2_text.proofs.Blocks.{count_laid, length_laid}
use Rattle.b2_text.proofs.Numbering.{few_places, number_is, numbered_over, numbered_put, numbers_within}
use Rattle.b2_text.proofs.Replacing.{added, same_count}
use Rattle.b2_text.proofs.Spans.{count_kept, count_spans, kept_put}
use Rattle.b2_text.proofs.numbers.put_number.Goals as goal

pub put_line-requires-clause-units : goal.put_line-requires-clause-units
put_line-requires-clause-units c =
    let counted = count_spans (lines_laid c.args.block.now.items c.args.places.now.items) c.args.units.now.items c.requires.kept in
    omega (arith, counted)

pub put_line-requires-clause-spans : goal.put_line-requires-clause-spans
put_line-requires-clause-spans c = count_kept c.args.atoms.now c.args.spans.now c.requires.spans

pub returns-clause-kept : goal.returns-clause-kept
returns-clause-kept c =
    kept_put c.find-i.result c.args.n c.args.atoms.now c.args.spans.now c.args.units.now.items c.put_line.new.units.items (lines_laid c.args.block.now.items c.args.places.now.items)
    (lines_laid c.put_line.new.block.items c.put_line.new.places.items) c.requires.spans c.requires.kept c.put_line.ensures.lines c.put_line.ensures.units

pub find-i-requires : goal.find-i-requires
find-i-requires c = ascending c.args.block.now.items c.args.places.now.items c.requires.ordered

pub replace_line-requires-clause-there : goal.replace_line-requires-clause-there
replace_line-requires-clause-there c =
    let block = c.args.block.now.items in
    let places = c.args.places.now.items in
    let ls = lines_laid block places in
    let there = c.is_at.ensures.there c.if-is_at.true in
    let over = put_over block c.args.n c.args.atoms.now places c.find-i.result c.find-i.ensures there.0 there.1 in
    let first = there.0 in
    omega (arith, first)

pub replace_line-requires-clause-small : goal.replace_line-requires-clause-small
replace_line-requires-clause-small c =
    let block = c.args.block.now.items in
    let places = c.args.places.now.items in
    let ls = lines_laid block places in
    let there = c.is_at.ensures.there c.if-is_at.true in
    let over = put_over block c.args.n c.args.atoms.now places c.find-i.result c.find-i.ensures there.0 there.1 in
    let size = ap size_of over in
    let small = c.requires.small in
    omega (arith, size, small)

pub replace_line-requires-clause-room : goal.replace_line-requires-clause-room
replace_line-requires-clause-room c =
    let block = c.args.block.now.items in
    let places = c.args.places.now.items in
    let ls = lines_laid block places in
    let there = c.is_at.ensures.there c.if-is_at.true in
    let over = put_over block c.args.n c.args.atoms.now places c.find-i.result c.find-i.ensures there.0 there.1 in
    let size = ap size_of over in
    let room = c.requires.room in
    omega (arith, size, room)

pub replace_line-requires-clause-units_room : goal.replace_line-requires-clause-units_room
replace_line-requires-clause-units_room c =
    let block = c.args.block.now.items in
    let places = c.args.places.now.items in
    let ls = lines_laid block places in
    let there = c.is_at.ensures.there c.if-is_at.true in
    let over = put_over block c.args.n c.args.atoms.now places c.find-i.result c.find-i.ensures there.0 there.1 in
    let units = ap units_in over in
    let room = c.requires.units_room in
    omega (arith, units, room)

pub replace_line-requires-clause-index_room : goal.replace_line-requires-clause-index_room
replace_line-requires-clause-index_room c =
    let block = c.args.block.now.items in
    let places = c.args.places.now.items in
    let ls = lines_laid block places in
    let there = c.is_at.ensures.there c.if-is_at.true in
    let over = put_over block c.args.n c.args.atoms.now places c.find-i.result c.find-i.ensures there.0 there.1 in
    let all = count_laid block places in
    let inside = there.0 in
    let count = same_count c.find-i.result c.args.n c.args.atoms.now ls (with_line c.args.n c.args.atoms.now ls) (omega (arith, inside, all)) over in
    let room = c.requires.index_room in
    omega (arith, count, all, room)

pub returns-then-is_at-clause-lines : goal.returns-then-is_at-clause-lines
returns-then-is_at-clause-lines c =
    let block = c.args.block.now.items in
    let places = c.args.places.now.items in
    let ls = lines_laid block places in
    let there = c.is_at.ensures.there c.if-is_at.true in
    let over = put_over block c.args.n c.args.atoms.now places c.find-i.result c.find-i.ensures there.0 there.1 in
    c.replace_line.ensures.lines ∙ over

pub put_line-requires-clause-within : goal.put_line-requires-clause-within
put_line-requires-clause-within c =
    let block = c.args.block.now.items in
    let places = c.args.places.now.items in
    let ls = lines_laid block places in
    let other = none_at c.args.n places c.find-i.result c.find-i.ensures (ascending block places c.requires.ordered) (c.is_at.ensures.other c.if-is_at.false) in
    let new = put_new block c.args.n c.args.atoms.now places c.find-i.result c.find-i.ensures other in
    let count = count_laid block places in
    let within = c.find-i.ensures.within in
    let sum = added c.find-i.result c.args.n c.args.atoms.now ls (with_line c.args.n c.args.atoms.now ls) (omega (arith, within, count)) new in
    omega (arith, within)

pub put_line-requires-clause-small : goal.put_line-requires-clause-small
put_line-requires-clause-small c =
    let block = c.args.block.now.items in
    let places = c.args.places.now.items in
    let ls = lines_laid block places in
    let other = none_at c.args.n places c.find-i.result c.find-i.ensures (ascending block places c.requires.ordered) (c.is_at.ensures.other c.if-is_at.false) in
    let new = put_new block c.args.n c.args.atoms.now places c.find-i.result c.find-i.ensures other in
    let count = count_laid block places in
    let within = c.find-i.ensures.within in
    let sum = added c.find-i.result c.args.n c.args.atoms.now ls (with_line c.args.n c.args.atoms.now ls) (omega (arith, within, count)) new in
    let size = sum.size in
    let whole = length_laid block places c.requires.laid in
    let small = c.requires.small in
    omega (arith, size, whole, small)

pub put_line-requires-clause-room : goal.put_line-requires-clause-room
put_line-requires-clause-room c =
    let block = c.args.block.now.items in
    let places = c.args.places.now.items in
    let ls = lines_laid block places in
    let other = none_at c.args.n places c.find-i.result c.find-i.ensures (ascending block places c.requires.ordered) (c.is_at.ensures.other c.if-is_at.false) in
    let new = put_new block c.args.n c.args.atoms.now places c.find-i.result c.find-i.ensures other in
    let count = count_laid block places in
    let within = c.find-i.ensures.within in
    let sum = added c.find-i.result c.args.n c.args.atoms.now ls (with_line c.args.n c.args.atoms.now ls) (omega (arith, within, count)) new in
    let size = sum.size in
    let whole = length_laid block places c.requires.laid in
    let room = c.requires.room in
    omega (arith, size, whole, room)

pub put_line-requires-clause-index_room : goal.put_line-requires-clause-index_room
put_line-requires-clause-index_room c =
    let block = c.args.block.now.items in
    let places = c.args.places.now.items in
    let ls = lines_laid block places in
    let other = none_at c.args.n places c.find-i.result c.find-i.ensures (ascending block places c.requires.ordered) (c.is_at.ensures.other c.if-is_at.false) in
    let new = put_new block c.args.n c.args.atoms.now places c.find-i.result c.find-i.ensures other in
    let count = count_laid block places in
    let within = c.find-i.ensures.within in
    let sum = added c.find-i.result c.args.n c.args.atoms.now ls (with_line c.args.n c.args.atoms.now ls) (omega (arith, within, count)) new in
    let all = sum.count in
    let room = c.requires.index_room in
    omega (arith, all, count, room)

pub put_line-requires-clause-units_room : goal.put_line-requires-clause-units_room
put_line-requires-clause-units_room c =
    let block = c.args.block.now.items in
    let places = c.args.places.now.items in
    let ls = lines_laid block places in
    let other = none_at c.args.n places c.find-i.result c.find-i.ensures (ascending block places c.requires.ordered) (c.is_at.ensures.other c.if-is_at.false) in
    let new = put_new block c.args.n c.args.atoms.now places c.find-i.result c.find-i.ensures other in
    let count = count_laid block places in
    let within = c.find-i.ensures.within in
    let sum = added c.find-i.result c.args.n c.args.atoms.now ls (with_line c.args.n c.args.atoms.now ls) (omega (arith, within, count)) new in
    let units = sum.units in
    let kept = count_spans ls c.args.units.now.items c.requires.kept in
    let spans = count_kept c.args.atoms.now c.args.spans.now c.requires.spans in
    let room = c.requires.units_room in
    omega (arith, units, kept, spans, room)

pub returns-clause-lines : goal.returns-clause-lines
returns-clause-lines c =
    let block = c.args.block.now.items in
    let places = c.args.places.now.items in
    let ls = lines_laid block places in
    let other = none_at c.args.n places c.find-i.result c.find-i.ensures (ascending block places c.requires.ordered) (c.is_at.ensures.other c.if-is_at.false) in
    let new = put_new block c.args.n c.args.atoms.now places c.find-i.result c.find-i.ensures other in
    let count = count_laid block places in
    let within = c.find-i.ensures.within in
    let sum = added c.find-i.result c.args.n c.args.atoms.now ls (with_line c.args.n c.args.atoms.now ls) (omega (arith, within, count)) new in
    c.put_line.ensures.lines ∙ new

pub returns-then-is_at-clause-ordered : goal.returns-then-is_at-clause-ordered
returns-then-is_at-clause-ordered c =
    subst (λ (ls : Lines). IsStrictlySortedBy nat_cmp (keys_of ls)) (sym (returns-then-is_at-clause-lines c))
    (sorted_with c.args.n c.args.atoms.now (lines_laid c.args.block.now.items c.args.places.now.items) c.requires.ordered)

pub returns-clause-ordered : goal.returns-clause-ordered
returns-clause-ordered c =
    subst (λ (ls : Lines). IsStrictlySortedBy nat_cmp (keys_of ls)) (sym (returns-clause-lines c))
    (sorted_with c.args.n c.args.atoms.now (lines_laid c.args.block.now.items c.args.places.now.items) c.requires.ordered)

pub number_lines-requires-clause-within : goal.number_lines-requires-clause-within
number_lines-requires-clause-within c =
    let block = c.args.block.now.items in
    let places = c.args.places.now.items in
    let ls = lines_laid block places in
    let other = none_at c.args.n places c.find-i.result c.find-i.ensures (ascending block places c.requires.ordered) (c.is_at.ensures.other c.if-is_at.false) in
    let new = put_new block c.args.n c.args.atoms.now places c.find-i.result c.find-i.ensures other in
    let before = count_laid block places in
    let after = count_laid c.put_line.new.block.items c.put_line.new.places.items in
    let within = c.find-i.ensures.within in
    let sum = added c.find-i.result c.args.n c.args.atoms.now ls (with_line c.args.n c.args.atoms.now ls) (omega (arith, within, before)) new in
    let all = sum.count in
    let lines = ap (λ (ks : Lines). length ks) (c.put_line.ensures.lines ∙ new) in
    omega (arith, all, before, after, lines, within)

pub number_lines-requires-clause-few : goal.number_lines-requires-clause-few
number_lines-requires-clause-few c =
    let block = c.args.block.now.items in
    let places = c.args.places.now.items in
    let other = none_at c.args.n places c.find-i.result c.find-i.ensures (ascending block places c.requires.ordered) (c.is_at.ensures.other c.if-is_at.false) in
    let lines = c.put_line.ensures.lines ∙ put_new block c.args.n c.args.atoms.now places c.find-i.result c.find-i.ensures other in
    let long = length_laid c.put_line.new.block.items c.put_line.new.places.items c.put_line.ensures.laid in
    let size = ap size_of lines in
    let small = c.requires.small in
    few_places c.put_line.new.block.items c.put_line.new.places.items c.put_line.ensures.laid (omega (arith, long, size, small))

pub number_lines-requires-clause-small : goal.number_lines-requires-clause-small
number_lines-requires-clause-small c = λ k inside.
    let block = c.args.block.now.items in
    let places = c.args.places.now.items in
    let other = none_at c.args.n places c.find-i.result c.find-i.ensures (ascending block places c.requires.ordered) (c.is_at.ensures.other c.if-is_at.false) in
    let lines = c.put_line.ensures.lines ∙ put_new block c.args.n c.args.atoms.now places c.find-i.result c.find-i.ensures other in
    let all =
    subst (λ (ls : Lines). All (λ m. m ≤ 9999) (keys_of ls)) (sym lines)
    (All-keys-insert_entry nat_cmp c.args.n c.args.atoms.now (λ m. m ≤ 9999) (lines_laid c.args.block.now.items c.args.places.now.items) c.requires.numbers c.requires.within) in
    let here = numbers_within c.put_line.new.block.items c.put_line.new.places.items all k inside in
    let long = c.requires.numbered.long in
    omega (arith, here, long)

pub returns-clause-numbered : goal.returns-clause-numbered
returns-clause-numbered c =
    let block = c.args.block.now.items in
    let places = c.args.places.now.items in
    let count = count_laid block places in
    let within = c.find-i.ensures.within in
    numbered_put c.find-i.result c.args.n c.args.atoms.now (lines_laid block places) (lines_laid c.put_line.new.block.items c.put_line.new.places.items)
    c.args.table.now.items c.number_lines.new.table.items c.requires.numbered (omega (arith, count, within)) c.put_line.ensures.lines c.number_lines.ensures.long
    (λ m. c.number_lines.ensures.places m c.put_line.new.block.items)

pub returns-then-is_at-clause-numbered : goal.returns-then-is_at-clause-numbered
returns-then-is_at-clause-numbered c =
    let block = c.args.block.now.items in
    let places = c.args.places.now.items in
    let there = c.is_at.ensures.there c.if-is_at.true in
    let count = count_laid block places in
    let inside = there.0 in
    numbered_over c.find-i.result c.args.n c.args.atoms.now (lines_laid block places) (lines_laid c.replace_line.new.block.items c.replace_line.new.places.items)
    c.args.table.now.items (0, []) c.requires.numbered (omega (arith, count, inside)) (number_is block places c.find-i.result inside ∙ there.1) c.replace_line.ensures.lines
