use Rattle.std.proofs.Common.{◌≤◌, ◌∙◌, length, sym, ap, subst, arith}
use Rattle.b2_record.specs.Items.{AllStorable}
use Rattle.b2_record.proofs.Groups.{later, groups-first, later-rest, counted-none, counted-all, record-spelled, some-values, no-values, later-some}
use Rattle.b2_record.proofs.records.sectors_of.Goals as goal

pub loop-rest-init : goal.loop-rest-init
loop-rest-init c = record {
  counted = omega (arith, ap (λ rest. length (later rest)) c.after_first-rest.ensures.value, ap length (groups-first c.args.values.now));
  few = omega arith;
  short = c.after_first-rest.ensures.short;
  storable = c.after_first-rest.ensures.storable;
}

pub loop-rest-preserved : goal.loop-rest-preserved
loop-rest-preserved c =
    let some : 1 ≤ length c.loop-rest.rest.now = some-values c.loop-rest.rest.now (sym c.is_empty.ensures ∙ c.loop-rest-test.true) in
    record {
      counted = later-rest c.loop-rest.count c.loop-rest.rest.now c.after_first-rest-in-loop-rest.result.now c.args.values.now c.loop-rest.invariant.short some c.after_first-rest-in-loop-rest.ensures.value c.loop-rest.invariant.counted;
      few = omega (arith, c.loop-rest.invariant.few, c.if-count-eq-MOST_SECTORS.false);
      short = c.after_first-rest-in-loop-rest.ensures.short;
      storable = λ h. c.loop-rest.invariant.storable (c.after_first-rest-in-loop-rest.ensures.storable h);
    }

pub returns-then-count-eq-MOST_SECTORS-clause-count : goal.returns-then-count-eq-MOST_SECTORS-clause-count
returns-then-count-eq-MOST_SECTORS-clause-count c =
    let some : 1 ≤ length c.loop-rest.rest.now = some-values c.loop-rest.rest.now (sym c.is_empty.ensures ∙ c.loop-rest-test.true) in
    let more = later-some c.loop-rest.rest.now some in
    counted-none c.args.values.now (omega (arith, c.loop-rest.invariant.counted, c.if-count-eq-MOST_SECTORS.true, more))

pub returns-clause-count : goal.returns-clause-count
returns-clause-count c =
    let none = no-values c.loop-rest.rest.now (sym c.is_empty.ensures ∙ c.loop-rest-test.false) in
    counted-all c.args.values.now c.loop-rest.count (omega (arith, c.loop-rest.invariant.counted, ap (λ vs. length (later vs)) none)) c.loop-rest.invariant.few

pub returns-clause-record : goal.returns-clause-record
returns-clause-record c =
    let none = no-values c.loop-rest.rest.now (sym c.is_empty.ensures ∙ c.loop-rest-test.false) in
    record-spelled c.args.values.now (c.loop-rest.invariant.storable (subst AllStorable (sym none) tt)) c.requires
    (omega (arith, c.loop-rest.invariant.counted, c.loop-rest.invariant.few, ap (λ vs. length (later vs)) none))
