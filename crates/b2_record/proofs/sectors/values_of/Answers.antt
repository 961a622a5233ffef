use Rattle.std.proofs.Common.{◌∙◌, [], ◌∷◌, drop, sym}
use Rattle.b2_record.proofs.Parsing.{no-group, no-zeros, whole-group, read-more, storable-joined}
use Rattle.b2_record.proofs.sectors.values_of.Goals as goal

pub returns-in_default-clause-err : goal.returns-in_default-clause-err
returns-in_default-clause-err c = (
  c.known.ensures,
  λ group is. no-group c.args.bytes.now c.loop-value.rest.now c.loop-value.values.items group c.loop-value.invariant.read c.loop-value.invariant.storable
      (λ e. c.loop-value-test.true (c.first.ensures ∙ e)) c.in_default.ensures.none is,
)

pub loop-value-preserved : goal.loop-value-preserved
loop-value-preserved c =
    let some = c.in-Some.ensures.some in
    record {
      read = rw (c.in_ok-add.ensures, c.rest_after-rest.ensures) (read-more c.args.bytes.now c.loop-value.rest.now (drop c.in-Some.len c.loop-value.rest.now) c.loop-value.values.items c.in-Some.value c.loop-value.invariant.read some.1);
      storable = rw c.in_ok-add.ensures (storable-joined c.loop-value.values.items (c.in-Some.value ∷ []) c.loop-value.invariant.storable (some.0, tt));
    }

pub returns-then-not-all_zero-clause-err : goal.returns-then-not-all_zero-clause-err
returns-then-not-all_zero-clause-err c = (
  c.known-then-not-all_zero.ensures,
  λ group is. no-zeros c.args.bytes.now c.loop-value.rest.now c.loop-value.values.items group c.loop-value.invariant.read c.loop-value.invariant.storable
      (sym c.first.ensures ∙ c.loop-value-test.false) (cc) is,
)

pub returns-clause-ok : goal.returns-clause-ok
returns-clause-ok c =
    whole-group c.args.bytes.now c.loop-value.rest.now c.loop-value.values.items c.loop-value.invariant.read c.loop-value.invariant.storable
    (sym c.first.ensures ∙ c.loop-value-test.false) (cc)
