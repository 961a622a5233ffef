use Rattle.std.proofs.Common.{◌∙◌, length, sym, arith}
use Rattle.b2_atom.proofs.lines.Units.{shorter}
use Rattle.b2_atom.proofs.lines.Walked.{from_first, here, gone, further, none_left}
use Rattle.b2_atom.proofs.spans.walked_unit.Goals as goal

pub loop-unit-init : goal.loop-unit-init
loop-unit-init c = record {
  before = omega arith;
  found = from_first c.args.line.now c.args.k;
}

pub overflow_sub-left : goal.overflow_sub-left
overflow_sub-left c = shorter c.loop-unit.left.now c.after_unit-rest.result.now c.loop-unit.position c.after_unit-rest.ensures

pub returns-then-unit-k : goal.returns-then-unit-k
returns-then-unit-k c =
    here c.args.line.now (length c.args.line.now) c.loop-unit.unit c.args.k c.loop-unit.position c.loop-unit.left.now c.after_unit-rest.result.now c.first_bytes.result.now
    c.loop-unit-test.true c.after_unit-rest.ensures c.if-unit-k.true c.first_bytes.ensures c.loop-unit.invariant.found

pub returns-then-is_empty : goal.returns-then-is_empty
returns-then-is_empty c =
    gone c.args.line.now (length c.args.line.now) c.loop-unit.unit c.args.k c.loop-unit.position c.loop-unit.left.now c.after_unit-rest.result.now
    c.loop-unit-test.true c.after_unit-rest.ensures (omega arith) (sym c.is_empty.ensures ∙ c.if-is_empty.true) c.loop-unit.invariant.found

pub loop-unit-preserved : goal.loop-unit-preserved
loop-unit-preserved c = record {
  before = omega arith;
  found =
      further c.args.line.now (length c.args.line.now) c.loop-unit.unit c.args.k c.loop-unit.position c.next_position-position.result c.loop-unit.left.now c.after_unit-rest.result.now
      c.next_text-left.result.now c.loop-unit-test.true c.after_unit-rest.ensures (omega arith) (sym c.is_empty.ensures ∙ c.if-is_empty.false)
      c.next_position-position.ensures c.next_text-left.ensures c.loop-unit.invariant.found;
}

pub returns : goal.returns
returns c = none_left c.args.line.now (length c.args.line.now) c.loop-unit.unit c.args.k c.loop-unit.position c.loop-unit.left.now (omega arith) c.loop-unit.invariant.found
