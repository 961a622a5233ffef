use Rattle.std.proofs.Common.{arith}
use Rattle.b2_record.proofs.Groups.{counted-more, storable-next, next-value}
use Rattle.b2_record.proofs.records.first_count.Goals as goal

pub loop-value-preserved : goal.loop-value-preserved
loop-value-preserved c =
    let rest = next-value c.args.values.now c.loop-value.value-index c.value-item.result c.loop-value-test.true c.value-item.is in
    record {
      counted = counted-more c.loop-value.count c.loop-value.used c.value_width-used.result _ c.value-item.result _ _ c.loop-value.invariant.counted rest c.value_width-used.ensures.count (omega arith);
      index = omega arith;
      storable = storable-next c.loop-value.value-index c.args.values.now c.value-item.result _ rest c.loop-value.invariant.storable c.value_width-used.ensures.storable;
      room = omega arith;
    }
