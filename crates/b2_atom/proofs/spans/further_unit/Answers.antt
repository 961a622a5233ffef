use Rattle.std.proofs.Common.{◌≡◌, ◌∙◌, length, arith, sym}
use Rattle.b2_atom.proofs.lines.Units.{further_first, further_no_more, further_passed, further_found, further_none_left}
use Rattle.b2_atom.proofs.spans.further_unit.Goals as goal

pub returns-then-k-units : goal.returns-then-k-units
returns-then-k-units c = λ line. further_no_more c.args.k line c.args.units.now (omega arith)

pub loop-unit-init : goal.loop-unit-init
loop-unit-init c = record {
  after = omega arith;
  within = omega arith;
  found = λ line. further_first c.args.k line c.args.units.now (omega arith);
}

pub returns-then-follows_colon : goal.returns-then-follows_colon
returns-then-follows_colon c = λ line.
    further_found c.args.k c.loop-unit.unit line c.args.units.now _ c.loop-unit.invariant.after c.loop-unit-test.true (sym c.follows_colon.ensures ∙ c.if-follows_colon.true)
    ∙ c.loop-unit.invariant.found line

pub loop-unit-preserved : goal.loop-unit-preserved
loop-unit-preserved c = record {
  after = omega arith;
  within = omega arith;
  found = λ line.
      further_passed c.args.k c.loop-unit.unit line c.args.units.now _ c.loop-unit-test.true (sym c.follows_colon.ensures ∙ c.if-follows_colon.false)
      ∙ c.loop-unit.invariant.found line;
}

pub returns : goal.returns
returns c = λ line.
    let last : c.loop-unit.unit ≡ length c.args.units.now = omega arith in
    sym last ∙ further_none_left c.args.k c.loop-unit.unit line c.args.units.now last ∙ c.loop-unit.invariant.found line
