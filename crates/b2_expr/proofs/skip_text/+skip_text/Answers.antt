use Rattle.std.proofs.Common.{sym, ◌∙◌, arith, ◌-◌, ◌+◌}
use Rattle.b2_expr.proofs.Extremes as further
use Rattle.b2_expr.proofs.skip_text.+skip_text.Goals as goal

pub past_further-returns-then-not-is_at : goal.past_further-returns-then-not-is_at
past_further-returns-then-not-is_at t c =
    sym (further.stop_rest (7 - c.loop.counter) (7 - (c.loop.counter + 1)) c.loop.left.now (let less = c.loop-test.true in omega (arith, less)) (sym c.if-not-is_at.ensures)) ∙ c.loop.invariant.rest

pub past_further-past_sum-left-requires : goal.past_further-past_sum-left-requires
past_further-past_sum-left-requires t c = (
  let shorter = further.step_shorter c.loop.left.now c.rest_after.result.now (sym c.if-not-is_at.ensures) c.rest_after.ensures in let left = c.loop.invariant.shorter in omega (arith, shorter, left, c.decreases),
  further.step_part (7 - c.loop.counter) (7 - (c.loop.counter + 1)) c.loop.left.now c.rest_after.result.now c.loop.invariant.part (let less = c.loop-test.true in omega (arith, less)) (sym c.if-not-is_at.ensures) c.rest_after.ensures,
)

pub past_further-loop-preserved : goal.past_further-loop-preserved
past_further-loop-preserved t c =
    record {
      part = further.step_further (7 - c.loop.counter) (7 - (c.loop.counter + 1)) c.loop.left.now c.rest_after.result.now c.past_sum-left.result.now c.loop.invariant.part (let less = c.loop-test.true in omega (arith, less)) (sym c.if-not-is_at.ensures) c.rest_after.ensures c.past_sum-left.ensures;
      rest = further.step_rest (7 - c.loop.counter) (7 - (c.loop.counter + 1)) c.loop.left.now c.rest_after.result.now c.past_sum-left.result.now (let less = c.loop-test.true in omega (arith, less)) (sym c.if-not-is_at.ensures) c.rest_after.ensures c.past_sum-left.ensures ∙ c.loop.invariant.rest;
      shorter = (let a = further.step_shorter c.loop.left.now c.rest_after.result.now (sym c.if-not-is_at.ensures) c.rest_after.ensures in let b = further.part_after c.rest_after.result.now c.past_sum-left.result.now c.past_sum-left.ensures in let d = c.loop.invariant.shorter in omega (arith, a, b, d));
    }

pub past_further-returns : goal.past_further-returns
past_further-returns t c =
    sym (further.none_rest (7 - c.loop.counter) c.loop.left.now (let more = c.loop-test.false in omega (arith, more))) ∙ c.loop.invariant.rest
