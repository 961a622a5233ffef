use Rattle.std.proofs.Common.{◌≡◌, ◌+◌, ◌<◌, length, drop, Err, sym, ap, ◌∙◌, length-drop, arith}
use Rattle.b2_pack.specs.Specification.{specified_pairs, field_length}
use Rattle.b2_pack.specs.Packing.{Placed, placed_from}
use Rattle.b2_pack.proofs.ReadingLemmas.{after_items, values-lacks_any, values-ok, values-err}
use Rattle.b2_pack.proofs.unpacking.values_in.Goals as goal

pub returns-in_default-clause-code : goal.returns-in_default-clause-code
returns-in_default-clause-code c =
    let some : 0 < length (drop c.loop-kind.kind-index c.args.kinds.now) = omega (arith, length-drop c.loop-kind.kind-index c.args.kinds.now) in
    sym c.loop-kind.invariant.read
    ∙ ap (after_items c.loop-kind.values.items) (values-lacks_any (placed_from c.loop-kind.at (specified_pairs c.loop-kind.rest.now)) (drop c.loop-kind.kind-index c.args.kinds.now) c.args.from.now c.in_default.ensures some)
    ∙ ap Err (sym c.known.ensures)

pub returns-in-Err-clause-code : goal.returns-in-Err-clause-code
returns-in-Err-clause-code c =
    let next = c.in-Some.next in
    let p : Placed = record { start = next.start; field = next.field } in
    let end : next.start + c.field_length.result ≡ next.start + field_length next.field = ap (λ w. next.start + w) c.field_length.ensures.width in
    values-err _ (placed_from (next.start + field_length next.field) (specified_pairs next.rest.now)) p c.args.kinds.now c.loop-kind.kind-index _ _ c.args.from.now c.field_value.result c.loop-kind.values.items c.in-Err.code _
    c.in-Some.ensures.first c.in-Some.ensures.inside c.loop-kind-test.true end c.field_value.ensures c.in-Err.is c.loop-kind.invariant.read

pub loop-kind-preserved : goal.loop-kind-preserved
loop-kind-preserved c =
    let next = c.in-Some.next in
    let p : Placed = record { start = next.start; field = next.field } in
    let end : next.start + c.field_length.result ≡ next.start + field_length next.field = ap (λ w. next.start + w) c.field_length.ensures.width in
    record {
      inside = omega (arith, end, c.in-Some.ensures.inside);
      read =
          rw end
          (values-ok _ (placed_from (next.start + field_length next.field) (specified_pairs next.rest.now)) p c.args.kinds.now c.loop-kind.kind-index _ _ c.args.from.now c.field_value.result c.loop-kind.values.items _ c.in-Ok.value _
          c.in-Some.ensures.first c.in-Some.ensures.inside c.loop-kind-test.true end c.field_value.ensures c.in-Ok.is c.in_ok-add-in-Ok.ensures c.loop-kind.invariant.read);
    }
