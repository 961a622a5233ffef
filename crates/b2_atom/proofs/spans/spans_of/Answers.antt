use Rattle.std.proofs.Common.{◌∙◌, sym, subst, length, List, ℕ}
use Rattle.std.specs.List.{All}
use Rattle.std.proofs.lemmas.List.Elements.{All-nil}
use Rattle.b2_atom.specs.Lines.{IsEndOf, KeepsRow, KeepsUses, leading_unit}
use Rattle.b2_atom.specs.declared.spans.Span.{Span}
use Rattle.b2_atom.proofs.lines.Units.{end_whole, end_next, found_none, found_next, found_last, found_all}
use Rattle.b2_atom.proofs.lines.UnitRows.{one_more_row, one_more_use}
use Rattle.b2_atom.proofs.spans.spans_of.Goals as goal

pub loop-init : goal.loop-init
loop-init c = record {
  left = end_whole c.args.line.now;
  units = found_none c.args.line.now c.new-spans.result.items c.new-spans.ensures.items;
  rows = subst (λ (ss : List Span). All (KeepsRow c.args.line.now) ss) (sym c.new-spans.ensures.items) (All-nil (KeepsRow c.args.line.now));
  uses = subst (λ (ss : List Span). All (KeepsUses c.args.line.now) ss) (sym c.new-spans.ensures.items) (All-nil (KeepsUses c.args.line.now));
}

pub span_between-requires-clause-left : goal.span_between-requires-clause-left
span_between-requires-clause-left c = c.loop.invariant.left

pub returns-then-is_empty-clause-units : goal.returns-then-is_empty-clause-units
returns-then-is_empty-clause-units c =
    found_last c.args.line.now (length c.args.line.now) c.loop.counter c.loop.position c.loop.left.now c.after_unit-rest.result.now c.loop.spans.items c.push.new.self.items c.span_between.result
    c.in_ok-push.ensures.items c.span_between.ensures.unit c.loop-test.true c.after_unit-rest.ensures (sym c.is_empty.ensures ∙ c.if-is_empty.true) c.loop.invariant.units

pub loop-preserved : goal.loop-preserved
loop-preserved c = record {
  left = subst (λ (t : List ℕ). IsEndOf c.args.line.now t) (sym c.next_text-left.ensures)
      (end_next c.args.line.now c.loop.left.now c.after_unit-rest.result.now c.loop.position c.loop.invariant.left c.after_unit-rest.ensures);
  units =
      found_next c.args.line.now (length c.args.line.now) c.loop.counter c.loop.position c.next_position-position.result c.loop.left.now c.after_unit-rest.result.now c.next_text-left.result.now
      c.loop.spans.items c.push.new.self.items c.span_between.result c.in_ok-push.ensures.items c.span_between.ensures.unit c.loop-test.true c.after_unit-rest.ensures
      (sym c.is_empty.ensures ∙ c.if-is_empty.false) c.next_position-position.ensures c.next_text-left.ensures c.loop.invariant.units;
  rows =
      one_more_row c.args.line.now c.loop.spans.items c.push.new.self.items c.span_between.result (leading_unit c.loop.position c.loop.left.now)
      c.in_ok-push.ensures.items c.span_between.ensures.unit c.span_between.ensures.row c.loop.invariant.rows;
  uses =
      one_more_use c.args.line.now c.loop.spans.items c.push.new.self.items c.span_between.result (leading_unit c.loop.position c.loop.left.now)
      c.in_ok-push.ensures.items c.span_between.ensures.unit c.span_between.ensures.uses c.loop.invariant.uses;
}

pub returns-then-is_empty-clause-rows : goal.returns-then-is_empty-clause-rows
returns-then-is_empty-clause-rows c =
    one_more_row c.args.line.now c.loop.spans.items c.push.new.self.items c.span_between.result (leading_unit c.loop.position c.loop.left.now)
    c.in_ok-push.ensures.items c.span_between.ensures.unit c.span_between.ensures.row c.loop.invariant.rows

pub returns-then-is_empty-clause-uses : goal.returns-then-is_empty-clause-uses
returns-then-is_empty-clause-uses c =
    one_more_use c.args.line.now c.loop.spans.items c.push.new.self.items c.span_between.result (leading_unit c.loop.position c.loop.left.now)
    c.in_ok-push.ensures.items c.span_between.ensures.unit c.span_between.ensures.uses c.loop.invariant.uses

pub returns-clause-units : goal.returns-clause-units
returns-clause-units c = found_all c.args.line.now (length c.args.line.now) c.loop.counter c.loop.position c.loop.left.now c.loop.spans.items c.loop-test.false c.loop.invariant.units
