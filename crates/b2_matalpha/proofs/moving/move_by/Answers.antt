use Rattle.std.proofs.Common.{◌≡◌, ◌<◌, ◌≤◌, ◌+◌, ◌*◌, ◌/◌, ◌++◌, ℕ, List, length, take, drop, Ok, Err, ap, sym, ◌∙◌, arith}
use Rattle.b2_alpha.specs.Values.{padded}
use Rattle.b2_matalpha.specs.Moves.{after_move, move_answer}
use Rattle.b2_matalpha.proofs.MovingOn.{left_from, left_next, left_end, after_past, after_none, with_more, answer_next, answer_past, answer_none, room_for, assigned, ends_here}
use Rattle.b2_matalpha.proofs.moving.move_by.Goals as goal

pub returns-then-place-count-clause-answer : goal.returns-then-place-count-clause-answer
returns-then-place-count-clause-answer c =
    let room : ℕ = length c.args.to.now / c.args.to_len in
    let inside : 2 * c.loop-moved.moved + 1 < length c.args.locators.now = omega (arith, c.min-most.ensures) in
    let low : c.loop-moved.moved < length c.args.to.now / c.args.to_len = omega (arith, c.min-most.ensures) in
    ap (λ (n : ℕ). Err n) c.known.ensures
    ∙ sym (answer_past c.args.of.now c.args.len c.locator-place.result c.loop-moved.moved (left_from c.args.locators.now room (c.loop-moved.moved + 1)) c.if-place-count.true)
    ∙ ap (λ (l : List ℕ). with_more c.loop-moved.moved (move_answer c.args.of.now c.args.len l))
    (sym (left_next c.args.locators.now room c.loop-moved.moved c.locator-place.result inside low c.locator-place.ensures.value c.if-place-eq0.false))
    ∙ c.loop-moved.invariant.answer

pub returns-then-place-count-clause-moved : goal.returns-then-place-count-clause-moved
returns-then-place-count-clause-moved c =
    let room : ℕ = length c.args.to.now / c.args.to_len in
    let m : ℕ = c.loop-moved.moved * c.args.to_len in
    let inside : 2 * c.loop-moved.moved + 1 < length c.args.locators.now = omega (arith, c.min-most.ensures) in
    let low : c.loop-moved.moved < length c.args.to.now / c.args.to_len = omega (arith, c.min-most.ensures) in
    ends_here c.args.of.now c.args.len c.args.to_len m c.loop-moved.to (left_from c.args.locators.now room c.loop-moved.moved) _
    (ap (λ (l : List ℕ). after_move c.args.of.now c.args.len l c.args.to_len (drop m c.loop-moved.to))
    (left_next c.args.locators.now room c.loop-moved.moved c.locator-place.result inside low c.locator-place.ensures.value c.if-place-eq0.false)
    ∙ after_past c.args.of.now c.args.len c.locator-place.result (left_from c.args.locators.now room (c.loop-moved.moved + 1)) c.args.to_len (drop m c.loop-moved.to) c.if-place-count.true)
    c.loop-moved.invariant.whole

pub loop-moved-preserved : goal.loop-moved-preserved
loop-moved-preserved c =
    let room : ℕ = length c.args.to.now / c.args.to_len in
    let m : ℕ = c.loop-moved.moved * c.args.to_len in
    let inside : 2 * c.loop-moved.moved + 1 < length c.args.locators.now = omega (arith, c.min-most.ensures) in
    let low : c.loop-moved.moved < length c.args.to.now / c.args.to_len = omega (arith, c.min-most.ensures) in
    let fits : c.loop-moved.moved * c.args.to_len + c.args.to_len ≤ length c.loop-moved.to =
    omega (arith, room_for c.loop-moved.moved (length c.args.to.now) c.args.to_len c.requires.to_len low, c.loop-moved.auto.to) in
    let next = left_next c.args.locators.now room c.loop-moved.moved c.locator-place.result inside low c.locator-place.ensures.value c.if-place-eq0.false in
    let is = c.assign_at.ensures
    ∙ ap (λ (l : List ℕ). take m c.loop-moved.to ++ (padded c.args.to_len l ++ drop (m + c.args.to_len) c.loop-moved.to)) c.element_at.ensures in
    record {
      whole = assigned c.args.of.now c.args.len c.locator-place.result (left_from c.args.locators.now room (c.loop-moved.moved + 1)) c.args.to_len c.loop-moved.moved c.loop-moved.to c.assign_at.new.to c.if-place-count.false fits is
          ∙ ap (λ (l : List ℕ). take m c.loop-moved.to ++ after_move c.args.of.now c.args.len l c.args.to_len (drop m c.loop-moved.to)) (sym next)
          ∙ c.loop-moved.invariant.whole;
      answer = sym (answer_next c.args.of.now c.args.len c.locator-place.result c.loop-moved.moved (left_from c.args.locators.now room (c.loop-moved.moved + 1)) c.if-place-count.false)
          ∙ ap (λ (l : List ℕ). with_more c.loop-moved.moved (move_answer c.args.of.now c.args.len l)) (sym next)
          ∙ c.loop-moved.invariant.answer;
    }

pub returns-clause-answer : goal.returns-clause-answer
returns-clause-answer c =
    let room : ℕ = length c.args.to.now / c.args.to_len in
    let done : c.min-most.result ≡ c.loop-moved.moved = omega arith in
    ap (λ (n : ℕ). Ok n) done ∙ sym (answer_none c.args.of.now c.args.len c.loop-moved.moved)
    ∙ ap (λ (l : List ℕ). with_more c.loop-moved.moved (move_answer c.args.of.now c.args.len l)) (sym (left_end c.args.locators.now room c.loop-moved.moved (omega (arith, c.min-most.ensures))))
    ∙ c.loop-moved.invariant.answer

pub returns-clause-moved : goal.returns-clause-moved
returns-clause-moved c =
    let room : ℕ = length c.args.to.now / c.args.to_len in
    let m : ℕ = c.loop-moved.moved * c.args.to_len in
    ends_here c.args.of.now c.args.len c.args.to_len m c.loop-moved.to (left_from c.args.locators.now room c.loop-moved.moved) _
    (ap (λ (l : List ℕ). after_move c.args.of.now c.args.len l c.args.to_len (drop m c.loop-moved.to)) (left_end c.args.locators.now room c.loop-moved.moved (omega (arith, c.min-most.ensures)))
    ∙ after_none c.args.of.now c.args.len c.args.to_len (drop m c.loop-moved.to))
    c.loop-moved.invariant.whole
