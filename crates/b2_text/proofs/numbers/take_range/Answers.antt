use Rattle.std.proofs.Common.{All, ◌≤◌, ◌-◌, ap, ◌+◌, ◌∙◌, sym, subst, arith, nat_cmp, get_or, List, take, drop}
use Rattle.std.specs.List.Sorted.{IsStrictlySortedBy}
use Rattle.std.specs.Map.{keys_of}
use Rattle.b2_text.specs.Program.{Lines}
use Rattle.b2_text.specs.Blocks.{lines_laid}
use Rattle.b2_text.specs.Numbered.{forgotten}
use Rattle.b2_text.specs.declared.block.LinePlace.{LinePlace}
use Rattle.b2_text.proofs.InOrder.{sorted_without}
use Rattle.b2_text.proofs.AtNumbers.{ascending, in_order, range_out}
use Rattle.b2_text.proofs.Keeping.{small_without}
use Rattle.b2_text.proofs.Blocks.{count_laid}
use Rattle.b2_text.proofs.Numbering.{cut_is, few_places, gone_within, laid_part, left_count, numbered_cut, numbers_within}
use Rattle.b2_text.proofs.Spans.{count_spans, kept_cut}
use Rattle.b2_text.proofs.numbers.take_range.Goals as goal

pub cut_lines-requires-clause-units : goal.cut_lines-requires-clause-units
cut_lines-requires-clause-units c =
    let counted = count_spans (lines_laid c.args.block.now.items c.args.places.now.items) c.args.units.now.items c.requires.kept in
    omega (arith, counted)

pub returns-clause-kept : goal.returns-clause-kept
returns-clause-kept c =
    kept_cut c.find-i.result c.place_after-j.result c.args.units.now.items c.cut_lines.new.units.items (lines_laid c.args.block.now.items c.args.places.now.items)
    (lines_laid c.cut_lines.new.block.items c.cut_lines.new.places.items) c.requires.kept c.cut_lines.ensures.lines c.cut_lines.ensures.units

pub find-i-requires : goal.find-i-requires
find-i-requires c = ascending c.args.block.now.items c.args.places.now.items c.requires.ordered

pub cut_lines-requires-clause-order : goal.cut_lines-requires-clause-order
cut_lines-requires-clause-order c =
    let order = c.requires.order in
    in_order c.args.from (c.args.to + 1) c.find-i.result c.place_after-j.result c.args.places.now.items (omega (arith, order)) c.find-i.ensures c.place_after-j.ensures

pub returns-clause-lines : goal.returns-clause-lines
returns-clause-lines c =
    let order = c.requires.order in
    c.cut_lines.ensures.lines
    ∙ range_out c.args.block.now.items c.args.from c.args.to c.args.places.now.items c.find-i.result c.place_after-j.result
    (in_order c.args.from (c.args.to + 1) c.find-i.result c.place_after-j.result c.args.places.now.items (omega (arith, order)) c.find-i.ensures c.place_after-j.ensures)
    c.find-i.ensures c.place_after-j.ensures

pub returns-clause-ordered : goal.returns-clause-ordered
returns-clause-ordered c =
    subst (λ (ls : Lines). IsStrictlySortedBy nat_cmp (keys_of ls)) (sym (returns-clause-lines c))
    (sorted_without c.args.from c.args.to (lines_laid c.args.block.now.items c.args.places.now.items) c.requires.ordered)

pub number_lines-requires-clause-within : goal.number_lines-requires-clause-within
number_lines-requires-clause-within c =
    let rise = c.requires.order in
    let order = in_order c.args.from (c.args.to + 1) c.find-i.result c.place_after-j.result c.args.places.now.items (omega (arith, rise)) c.find-i.ensures c.place_after-j.ensures in
    let block = c.args.block.now.items in
    let places = c.args.places.now.items in
    let before = count_laid block places in
    let after = count_laid c.cut_lines.new.block.items c.cut_lines.new.places.items in
    let within = c.place_after-j.ensures.within in
    let left =
    left_count c.find-i.result c.place_after-j.result (lines_laid block places) (lines_laid c.cut_lines.new.block.items c.cut_lines.new.places.items)
    order (omega (arith, before, within)) c.cut_lines.ensures.lines in
    let inside = left.within in
    omega (arith, inside, after)

pub number_lines-requires-clause-few : goal.number_lines-requires-clause-few
number_lines-requires-clause-few c =
    let rise = c.requires.order in
    let order = in_order c.args.from (c.args.to + 1) c.find-i.result c.place_after-j.result c.args.places.now.items (omega (arith, rise)) c.find-i.ensures c.place_after-j.ensures in
    let block = c.args.block.now.items in
    let places = c.args.places.now.items in
    let before = count_laid block places in
    let after = count_laid c.cut_lines.new.block.items c.cut_lines.new.places.items in
    let within = c.place_after-j.ensures.within in
    let left =
    left_count c.find-i.result c.place_after-j.result (lines_laid block places) (lines_laid c.cut_lines.new.block.items c.cut_lines.new.places.items)
    order (omega (arith, before, within)) c.cut_lines.ensures.lines in
    let fewer = left.fewer in
    let small = c.requires.small in
    let few = few_places block places c.requires.laid (omega (arith, small)) in
    omega (arith, fewer, before, after, few)

pub number_lines-requires-clause-small : goal.number_lines-requires-clause-small
number_lines-requires-clause-small c = λ k inside.
    let rise = c.requires.order in
    let order = in_order c.args.from (c.args.to + 1) c.find-i.result c.place_after-j.result c.args.places.now.items (omega (arith, rise)) c.find-i.ensures c.place_after-j.ensures in
    let all =
    subst (λ (ls : Lines). All (λ m. m ≤ 9999) (keys_of ls)) (sym (c.cut_lines.ensures.lines ∙ range_out c.args.block.now.items c.args.from c.args.to c.args.places.now.items c.find-i.result c.place_after-j.result order c.find-i.ensures c.place_after-j.ensures))
    (small_without c.args.from c.args.to (lines_laid c.args.block.now.items c.args.places.now.items) c.requires.numbers) in
    let here = numbers_within c.cut_lines.new.block.items c.cut_lines.new.places.items all k inside in
    let long = c.requires.numbered.long in
    let same = c.forget_lines.ensures.long in
    omega (arith, here, long, same)

pub forget_lines-requires : goal.forget_lines-requires
forget_lines-requires c = record {
  small = λ m inside.
      (let here =
      gone_within c.args.block.now.items c.args.places.now.items _ c.find-i.result (c.place_after-j.result - c.find-i.result)
      (ap (λ (ps : List LinePlace). take (c.place_after-j.result - c.find-i.result) (drop c.find-i.result ps)) c.deref.ensures.value)
      c.requires.numbers m inside in
      let long = c.requires.numbered.long in omega (arith, here, long));
}

pub returns-clause-numbered : goal.returns-clause-numbered
returns-clause-numbered c =
    let block = c.args.block.now.items in
    let places = c.args.places.now.items in
    let table = c.args.table.now.items in
    let i = c.find-i.result in
    let j = c.place_after-j.result in
    let ls = lines_laid block places in
    let ms = lines_laid c.cut_lines.new.block.items c.cut_lines.new.places.items in
    let rise = c.requires.order in
    let order = in_order c.args.from (c.args.to + 1) i j places (omega (arith, rise)) c.find-i.ensures c.place_after-j.ensures in
    let count = count_laid block places in
    let within = c.find-i.ensures.within in
    numbered_cut i (j - i) ls ms table c.forget_lines.new.table.items c.number_lines.new.table.items c.requires.numbered c.requires.ordered (omega (arith, count, within))
    (cut_is i j ls ms order c.cut_lines.ensures.lines) c.forget_lines.ensures.long
    (λ m. c.forget_lines.ensures.places m block ∙ ap (λ (gs : Lines). forgotten (get_or table m 0) m gs) (laid_part block i (j - i) places _ (ap (λ (ps : List LinePlace). take (j - i) (drop i ps)) c.deref.ensures.value)))
    c.number_lines.ensures.long (λ m. c.number_lines.ensures.places m c.cut_lines.new.block.items)
