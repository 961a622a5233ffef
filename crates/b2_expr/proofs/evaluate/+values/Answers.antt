use Rattle.std.proofs.Common.{◌≡◌, ℕ, ◌==◌, true, false, Ok, length, drop, get_or, refl, sym, ap, ap₂, subst, ◌∙◌, arith, ◌-◌, ◌+◌}
use Rattle.b2_base.specs.Byte as byte
use Rattle.b2_base.specs.Lexical.{first}
use Rattle.b2_dec.specs.Number.{Number}
use Rattle.b2_atom.specs.Words.{Text}
use Rattle.b2_atom.specs.declared.rows.TheConstants as row
use Rattle.b2_rows.specs.Rows.{is_phrase, tree_at, after_phrase}
use Rattle.b2_rows.specs.Leaves.{leaf_bytes}
use Rattle.b2_expr.specs.Further.{further_tree}
use Rattle.b2_expr.specs.Answers.{Answer, ◌>>=◌}
use Rattle.b2_expr.specs.Functions.{subscript}
use Rattle.b2_expr.specs.Named.{name_leaf, cell_seen, number_there, plain_array}
use Rattle.b2_expr.specs.Value.{context, extremes, value}
use Rattle.b2_expr.specs.Operators.{joined, under_sign}
use Rattle.b2_expr.specs.Reads.{Finds}
use Rattle.b2_expr.specs.declared.operators.Level.TheVariants as level
use Rattle.b2_rows.proofs.EachChain as each
use Rattle.b2_vars.specs.Names.{scalar_named}
use Rattle.b2_expr.specs.Named.{counted_digit}
use Rattle.b2_expr.proofs.Chained.{alone, bound_code, bound_number, ended, finds_code, finds_same, finds_with, off, on_code, on_part, on_refused, on_shorter, on_smaller, on_step, start_refused, started}
use Rattle.b2_expr.proofs.Chains.{chain_item}
use Rattle.b2_expr.proofs.Factors.{plain_value, signed_value}
use Rattle.b2_expr.proofs.Operands.{call_is, call_rest}
use Rattle.b2_expr.proofs.PlainElements.{inside, number_in, two_is, two_rest}
use Rattle.b2_expr.proofs.PlainNames.{scalar_found}
use Rattle.b2_expr.proofs.Tails.{one_less}
use Rattle.b2_expr.proofs.Defined.{body_part, body_is, length_after}
use Rattle.b2_expr.proofs.Extremes as further
use Rattle.b2_expr.proofs.Names.{is_legal, is_alpha}
use Rattle.b2_expr.proofs.Texts.{text_there}
use Rattle.b2_expr.proofs.evaluate.+values.Goals as goal

pub alpha_variable-returns-in-Ok-join_text : goal.alpha_variable-returns-in-Ok-join_text
alpha_variable-returns-in-Ok-join_text t c = (
  text_there (context c.args.s.now) (tree_at row.ALPHA_VARIABLE c.args.text.now) (cell_seen c.in-Ok.found.0) c.in-Ok-bytes.bytes.now c.first_bytes.result.now c.args.into.now c.value_len.result
      c.in-Ok.ensures.place.0 c.in-Ok-bytes.ensures.value c.value_len.ensures.value c.first_bytes.ensures ∙ c.in-Ok-join_text.ensures,
  c.in-Ok.ensures.place.1,
)

pub alpha_variable-returns-in-Err-join_text : goal.alpha_variable-returns-in-Err-join_text
alpha_variable-returns-in-Err-join_text t c =
    text_there (context c.args.s.now) (tree_at row.ALPHA_VARIABLE c.args.text.now) (cell_seen c.in-Ok.found.0) c.in-Ok-bytes.bytes.now c.first_bytes.result.now c.args.into.now c.value_len.result
    c.in-Ok.ensures.place.0 c.in-Ok-bytes.ensures.value c.value_len.ensures.value c.first_bytes.ensures ∙ c.in-Err-join_text.ensures

pub located-returns-clause-name : goal.located-returns-clause-name
located-returns-clause-name t c = (
  is_legal c.name_at-width.result.0 c.is_at.result c.variable_of.result c.variable_of.ensures c.name_at-width.ensures.legal,
  is_alpha c.args.kind c.name_at-width.result.0 c.is_at.result c.variable_of.result (leaf_bytes (name_leaf c.args.kind) c.args.text.now) c.variable_of.ensures c.name_at-width.ensures.name,
)

pub call-sum-found-requires : goal.call-sum-found-requires
call-sum-found-requires t c = (
  let few = length_after c.in-Some.unit.now c.rest_after-named.result.now c.rest_after-body.result.now _ c.rest_after-named.ensures c.rest_after-body.ensures c.in-Some.ensures.short in omega (arith, few, c.decreases, c.if-s-eq0.false),
  subst (λ (u : Text). is_phrase row.SUM u ≡ true) (sym (c.rest_after-body.ensures ∙ body_is c.in-Some.unit.now c.rest_after-named.result.now c.numeric_name-width.result.1 c.rest_after-named.ensures c.numeric_name-width.ensures.width))
      (body_part c.args.name c.in-Some.unit.now c.in-Some.ensures.part c.requires.named c.in-Some.ensures.found),
)

pub further_numbers-returns-then-not-is_at : goal.further_numbers-returns-then-not-is_at
further_numbers-returns-then-not-is_at t c =
    finds_with _ _ c.loop.left.now c.loop.number c.with.result c.with.ensures
    (sym c.loop.invariant.value
    ∙ further.stop_value (context c.args.s.now) c.args.word (Ok c.loop.number) (7 - c.loop.counter) (7 - (c.loop.counter + 1)) c.loop.left.now (let less = c.loop-test.true in omega (arith, less)) (sym c.if-not-is_at.ensures))
    (sym (further.stop_rest (7 - c.loop.counter) (7 - (c.loop.counter + 1)) c.loop.left.now (let less = c.loop-test.true in omega (arith, less)) (sym c.if-not-is_at.ensures)) ∙ c.loop.invariant.rest)

pub further_numbers-sum-other-requires : goal.further_numbers-sum-other-requires
further_numbers-sum-other-requires t c = (
  let shorter = further.step_shorter c.loop.left.now c.rest_after-item.result.now (sym c.if-not-is_at.ensures) c.rest_after-item.ensures in let left = c.loop.invariant.shorter in omega (arith, shorter, left, c.decreases),
  further.step_part (7 - c.loop.counter) (7 - (c.loop.counter + 1)) c.loop.left.now c.rest_after-item.result.now c.loop.invariant.part (let less = c.loop-test.true in omega (arith, less)) (sym c.if-not-is_at.ensures) c.rest_after-item.ensures,
)

pub further_numbers-returns-then-is_code : goal.further_numbers-returns-then-is_code
further_numbers-returns-then-is_code t c =
    let coded = sym c.is_code.ensures ∙ c.if-is_code.true in
    finds_code _ _ c.sum-other.result
    (sym c.loop.invariant.value
    ∙ further.step_value (context c.args.s.now) c.args.word c.loop.number (7 - c.loop.counter) (7 - (c.loop.counter + 1)) c.loop.left.now c.rest_after-item.result.now c.sum-other.result.number (let less = c.loop-test.true in omega (arith, less)) (sym c.if-not-is_at.ensures) c.rest_after-item.ensures (sym c.sum-other.ensures.number)
    ∙ further.code_refused (context c.args.s.now) c.args.word c.sum-other.result.number c.loop.number (further_tree (7 - (c.loop.counter + 1)) (after_phrase row.SUM c.rest_after-item.result.now)) coded)
    coded

pub further_numbers-loop-preserved : goal.further_numbers-loop-preserved
further_numbers-loop-preserved t c =
    record {
      part = further.step_further (7 - c.loop.counter) (7 - (c.loop.counter + 1)) c.loop.left.now c.rest_after-item.result.now c.after_sum-left.result.now c.loop.invariant.part (let less = c.loop-test.true in omega (arith, less)) (sym c.if-not-is_at.ensures) c.rest_after-item.ensures c.after_sum-left.ensures;
      value = ap (λ (u : Text). extremes (context c.args.s.now) c.args.word (Ok c.extreme-number.result) (further_tree (7 - (c.loop.counter + 1)) u)) c.after_sum-left.ensures
          ∙ ap (λ (x : Number). extremes (context c.args.s.now) c.args.word (Ok x) (further_tree (7 - (c.loop.counter + 1)) (after_phrase row.SUM c.rest_after-item.result.now))) c.extreme-number.ensures
          ∙ sym (further.step_value (context c.args.s.now) c.args.word c.loop.number (7 - c.loop.counter) (7 - (c.loop.counter + 1)) c.loop.left.now c.rest_after-item.result.now (Ok c.get.result) (let less = c.loop-test.true in omega (arith, less)) (sym c.if-not-is_at.ensures) c.rest_after-item.ensures (sym c.sum-other.ensures.number ∙ c.get.ensures))
          ∙ c.loop.invariant.value;
      rest = further.step_rest (7 - c.loop.counter) (7 - (c.loop.counter + 1)) c.loop.left.now c.rest_after-item.result.now c.after_sum-left.result.now (let less = c.loop-test.true in omega (arith, less)) (sym c.if-not-is_at.ensures) c.rest_after-item.ensures c.after_sum-left.ensures ∙ c.loop.invariant.rest;
      shorter = (let a = further.step_shorter c.loop.left.now c.rest_after-item.result.now (sym c.if-not-is_at.ensures) c.rest_after-item.ensures in let b = further.part_after c.rest_after-item.result.now c.after_sum-left.result.now c.after_sum-left.ensures in let d = c.loop.invariant.shorter in omega (arith, a, b, d));
    }

pub further_numbers-returns : goal.further_numbers-returns
further_numbers-returns t c =
    finds_with _ _ c.loop.left.now c.loop.number c.with-2.result c.with-2.ensures
    (sym c.loop.invariant.value
    ∙ further.none_value (context c.args.s.now) c.args.word (Ok c.loop.number) (7 - c.loop.counter) c.loop.left.now (let more = c.loop-test.false in omega (arith, more)))
    (sym (further.none_rest (7 - c.loop.counter) c.loop.left.now (let more = c.loop-test.false in omega (arith, more))) ∙ c.loop.invariant.rest)

pub sum-product-start-requires : goal.sum-product-start-requires
sum-product-start-requires t c = (omega (arith, c.decreases), chain_item level.Sum c.args.text.now refl c.requires.phrase)

pub sum-returns-then-start-eq0 : goal.sum-returns-then-start-eq0
sum-returns-then-start-eq0 t c = ended (context c.args.s.now) level.Sum c.args.text.now c.product-start.result refl c.requires.phrase c.product-start.ensures c.if-start-eq0.true refl

pub sum-returns-then-is_code : goal.sum-returns-then-is_code
sum-returns-then-is_code t c = start_refused (context c.args.s.now) level.Sum c.args.text.now c.product-start.result refl c.requires.phrase c.product-start.ensures (sym c.is_code.ensures ∙ c.if-is_code.true)

pub sum-loop-item-init : goal.sum-loop-item-init
sum-loop-item-init t c =
    started (context c.args.s.now) level.Sum c.args.text.now c.product-start.result c.get-number.result c.last_bytes-left.result.now refl c.requires.phrase c.product-start.ensures
    (sym c.is_code.ensures ∙ c.if-is_code.false) c.get-number.ensures c.last_bytes-left.ensures

pub sum-product-other-requires : goal.sum-product-other-requires
sum-product-other-requires t c = (
  let a = on_shorter (context c.args.s.now) level.Sum c.args.text.now c.loop-item.number c.loop-item.left.now c.loop-item.invariant refl (sym c.goes_on.ensures ∙ c.loop-item-test.true) c.rest_after-item.result.now c.rest_after-item.ensures in let b = c.loop-item.invariant.shorter in omega (arith, a, b, c.decreases),
  on_part (context c.args.s.now) level.Sum c.args.text.now c.loop-item.number c.loop-item.left.now c.loop-item.invariant refl (sym c.goes_on.ensures ∙ c.loop-item-test.true) c.rest_after-item.result.now c.rest_after-item.ensures,
)

pub sum-returns-then-is_code-2 : goal.sum-returns-then-is_code-2
sum-returns-then-is_code-2 t c = on_refused (context c.args.s.now) level.Sum c.args.text.now c.loop-item.number c.loop-item.left.now c.loop-item.invariant refl (sym c.goes_on.ensures ∙ c.loop-item-test.true) c.rest_after-item.result.now c.rest_after-item.ensures c.product-other.result c.product-other.ensures (sym c.is_code-in-loop-item.ensures ∙ c.if-is_code-2.true)

pub sum-returns-then-is_code-3 : goal.sum-returns-then-is_code-3
sum-returns-then-is_code-3 t c = on_code (context c.args.s.now) level.Sum c.args.text.now c.loop-item.number c.loop-item.left.now c.loop-item.invariant refl (sym c.goes_on.ensures ∙ c.loop-item-test.true) c.rest_after-item.result.now c.rest_after-item.ensures c.product-other.result c.product-other.ensures (sym c.is_code-in-loop-item.ensures ∙ c.if-is_code-2.false) c.get.result c.get.ensures c.joined-made.result (c.joined-made.ensures ∙ ap (λ (b : ℕ). joined c.args.s.now.env.now.mode b c.loop-item.number c.get.result) c.first.ensures) c.at_end.result c.at_end.ensures (sym c.is_code-in-loop-item-2.ensures ∙ c.if-is_code-3.true)

pub sum-loop-item-smaller : goal.sum-loop-item-smaller
sum-loop-item-smaller t c = on_smaller (context c.args.s.now) level.Sum c.args.text.now c.loop-item.number c.loop-item.left.now c.loop-item.invariant refl (sym c.goes_on.ensures ∙ c.loop-item-test.true) c.rest_after-item.result.now c.rest_after-item.ensures c.product-other.result c.product-other.ensures (sym c.is_code-in-loop-item.ensures ∙ c.if-is_code-2.false) c.get.result c.get.ensures c.joined-made.result (c.joined-made.ensures ∙ ap (λ (b : ℕ). joined c.args.s.now.env.now.mode b c.loop-item.number c.get.result) c.first.ensures) c.get-number-in-loop-item.result c.get-number-in-loop-item.ensures c.last_bytes-left-in-loop-item.result.now c.last_bytes-left-in-loop-item.ensures

pub sum-loop-item-preserved : goal.sum-loop-item-preserved
sum-loop-item-preserved t c = on_step (context c.args.s.now) level.Sum c.args.text.now c.loop-item.number c.loop-item.left.now c.loop-item.invariant refl (sym c.goes_on.ensures ∙ c.loop-item-test.true) c.rest_after-item.result.now c.rest_after-item.ensures c.product-other.result c.product-other.ensures (sym c.is_code-in-loop-item.ensures ∙ c.if-is_code-2.false) c.get.result c.get.ensures c.joined-made.result (c.joined-made.ensures ∙ ap (λ (b : ℕ). joined c.args.s.now.env.now.mode b c.loop-item.number c.get.result) c.first.ensures) c.get-number-in-loop-item.result c.get-number-in-loop-item.ensures c.last_bytes-left-in-loop-item.result.now c.last_bytes-left-in-loop-item.ensures

pub sum-returns : goal.sum-returns
sum-returns t c = off (context c.args.s.now) level.Sum c.args.text.now c.loop-item.number c.loop-item.left.now c.loop-item.invariant refl (sym c.goes_on.ensures ∙ c.loop-item-test.false) (length c.loop-item.left.now) refl c.with.result c.with.ensures

pub product-factor-start-requires : goal.product-factor-start-requires
product-factor-start-requires t c = (omega (arith, c.decreases), chain_item level.Product c.args.text.now refl c.requires.phrase)

pub product-returns-then-is_code : goal.product-returns-then-is_code
product-returns-then-is_code t c = start_refused (context c.args.s.now) level.Product c.args.text.now c.factor-start.result refl c.requires.phrase c.factor-start.ensures (sym c.is_code.ensures ∙ c.if-is_code.true)

pub product-returns-then-not-goes_on : goal.product-returns-then-not-goes_on
product-returns-then-not-goes_on t c =
    alone (context c.args.s.now) level.Product c.args.text.now c.factor-start.result c.last_bytes.result.now refl c.requires.phrase c.factor-start.ensures
    (sym c.is_code.ensures ∙ c.if-is_code.false) c.last_bytes.ensures (sym c.if-not-goes_on.ensures)

pub factors_from-loop-item-init : goal.factors_from-loop-item-init
factors_from-loop-item-init t c =
    started (context c.args.s.now) level.Product c.args.text.now c.args.start c.get-number.result c.last_bytes-left.result.now refl c.requires.phrase c.requires.start
    c.requires.some c.get-number.ensures c.last_bytes-left.ensures

pub factors_from-factor-other-requires : goal.factors_from-factor-other-requires
factors_from-factor-other-requires t c = (
  let a = on_shorter (context c.args.s.now) level.Product c.args.text.now c.loop-item.number c.loop-item.left.now c.loop-item.invariant refl (sym c.goes_on.ensures ∙ c.loop-item-test.true) c.rest_after-item.result.now c.rest_after-item.ensures in let b = c.loop-item.invariant.shorter in omega (arith, a, b, c.decreases),
  on_part (context c.args.s.now) level.Product c.args.text.now c.loop-item.number c.loop-item.left.now c.loop-item.invariant refl (sym c.goes_on.ensures ∙ c.loop-item-test.true) c.rest_after-item.result.now c.rest_after-item.ensures,
)

pub factors_from-returns-then-is_code : goal.factors_from-returns-then-is_code
factors_from-returns-then-is_code t c = on_refused (context c.args.s.now) level.Product c.args.text.now c.loop-item.number c.loop-item.left.now c.loop-item.invariant refl (sym c.goes_on.ensures ∙ c.loop-item-test.true) c.rest_after-item.result.now c.rest_after-item.ensures c.factor-other.result c.factor-other.ensures (sym c.is_code.ensures ∙ c.if-is_code.true)

pub factors_from-returns-then-is_code-2 : goal.factors_from-returns-then-is_code-2
factors_from-returns-then-is_code-2 t c = on_code (context c.args.s.now) level.Product c.args.text.now c.loop-item.number c.loop-item.left.now c.loop-item.invariant refl (sym c.goes_on.ensures ∙ c.loop-item-test.true) c.rest_after-item.result.now c.rest_after-item.ensures c.factor-other.result c.factor-other.ensures (sym c.is_code.ensures ∙ c.if-is_code.false) c.get.result c.get.ensures c.joined-made.result (c.joined-made.ensures ∙ ap (λ (b : ℕ). joined c.args.s.now.env.now.mode b c.loop-item.number c.get.result) c.first.ensures) c.at_end.result c.at_end.ensures (sym c.is_code-in-loop-item.ensures ∙ c.if-is_code-2.true)

pub factors_from-loop-item-smaller : goal.factors_from-loop-item-smaller
factors_from-loop-item-smaller t c = on_smaller (context c.args.s.now) level.Product c.args.text.now c.loop-item.number c.loop-item.left.now c.loop-item.invariant refl (sym c.goes_on.ensures ∙ c.loop-item-test.true) c.rest_after-item.result.now c.rest_after-item.ensures c.factor-other.result c.factor-other.ensures (sym c.is_code.ensures ∙ c.if-is_code.false) c.get.result c.get.ensures c.joined-made.result (c.joined-made.ensures ∙ ap (λ (b : ℕ). joined c.args.s.now.env.now.mode b c.loop-item.number c.get.result) c.first.ensures) c.get-number-in-loop-item.result c.get-number-in-loop-item.ensures c.last_bytes-left-in-loop-item.result.now c.last_bytes-left-in-loop-item.ensures

pub factors_from-loop-item-preserved : goal.factors_from-loop-item-preserved
factors_from-loop-item-preserved t c = on_step (context c.args.s.now) level.Product c.args.text.now c.loop-item.number c.loop-item.left.now c.loop-item.invariant refl (sym c.goes_on.ensures ∙ c.loop-item-test.true) c.rest_after-item.result.now c.rest_after-item.ensures c.factor-other.result c.factor-other.ensures (sym c.is_code.ensures ∙ c.if-is_code.false) c.get.result c.get.ensures c.joined-made.result (c.joined-made.ensures ∙ ap (λ (b : ℕ). joined c.args.s.now.env.now.mode b c.loop-item.number c.get.result) c.first.ensures) c.get-number-in-loop-item.result c.get-number-in-loop-item.ensures c.last_bytes-left-in-loop-item.result.now c.last_bytes-left-in-loop-item.ensures

pub factors_from-returns : goal.factors_from-returns
factors_from-returns t c = off (context c.args.s.now) level.Product c.args.text.now c.loop-item.number c.loop-item.left.now c.loop-item.invariant refl (sym c.goes_on.ensures ∙ c.loop-item-test.false) (length c.loop-item.left.now) refl c.with.result c.with.ensures

pub power-operand-start-requires : goal.power-operand-start-requires
power-operand-start-requires t c = (omega (arith, c.decreases), chain_item level.Power c.args.text.now refl c.requires.phrase)

pub power-returns-then-is_code : goal.power-returns-then-is_code
power-returns-then-is_code t c = start_refused (context c.args.s.now) level.Power c.args.text.now c.operand-start.result refl c.requires.phrase c.operand-start.ensures (sym c.is_code.ensures ∙ c.if-is_code.true)

pub power-returns-then-not-goes_on : goal.power-returns-then-not-goes_on
power-returns-then-not-goes_on t c =
    alone (context c.args.s.now) level.Power c.args.text.now c.operand-start.result c.last_bytes.result.now refl c.requires.phrase c.operand-start.ensures
    (sym c.is_code.ensures ∙ c.if-is_code.false) c.last_bytes.ensures (sym c.if-not-goes_on.ensures)

pub powers_from-loop-item-init : goal.powers_from-loop-item-init
powers_from-loop-item-init t c =
    started (context c.args.s.now) level.Power c.args.text.now c.args.start c.get-number.result c.last_bytes-left.result.now refl c.requires.phrase c.requires.start
    c.requires.some c.get-number.ensures c.last_bytes-left.ensures

pub powers_from-operand-other-requires : goal.powers_from-operand-other-requires
powers_from-operand-other-requires t c = (
  let a = on_shorter (context c.args.s.now) level.Power c.args.text.now c.loop-item.number c.loop-item.left.now c.loop-item.invariant refl (sym c.goes_on.ensures ∙ c.loop-item-test.true) c.rest_after-item.result.now c.rest_after-item.ensures in let b = c.loop-item.invariant.shorter in omega (arith, a, b, c.decreases),
  on_part (context c.args.s.now) level.Power c.args.text.now c.loop-item.number c.loop-item.left.now c.loop-item.invariant refl (sym c.goes_on.ensures ∙ c.loop-item-test.true) c.rest_after-item.result.now c.rest_after-item.ensures,
)

pub powers_from-returns-then-is_code : goal.powers_from-returns-then-is_code
powers_from-returns-then-is_code t c = on_refused (context c.args.s.now) level.Power c.args.text.now c.loop-item.number c.loop-item.left.now c.loop-item.invariant refl (sym c.goes_on.ensures ∙ c.loop-item-test.true) c.rest_after-item.result.now c.rest_after-item.ensures c.operand-other.result c.operand-other.ensures (sym c.is_code.ensures ∙ c.if-is_code.true)

pub powers_from-returns-then-is_code-2 : goal.powers_from-returns-then-is_code-2
powers_from-returns-then-is_code-2 t c = on_code (context c.args.s.now) level.Power c.args.text.now c.loop-item.number c.loop-item.left.now c.loop-item.invariant refl (sym c.goes_on.ensures ∙ c.loop-item-test.true) c.rest_after-item.result.now c.rest_after-item.ensures c.operand-other.result c.operand-other.ensures (sym c.is_code.ensures ∙ c.if-is_code.false) c.get.result c.get.ensures c.joined-made.result (c.joined-made.ensures ∙ ap (λ (b : ℕ). joined c.args.s.now.env.now.mode b c.loop-item.number c.get.result) c.first.ensures) c.at_end.result c.at_end.ensures (sym c.is_code-in-loop-item.ensures ∙ c.if-is_code-2.true)

pub powers_from-loop-item-smaller : goal.powers_from-loop-item-smaller
powers_from-loop-item-smaller t c = on_smaller (context c.args.s.now) level.Power c.args.text.now c.loop-item.number c.loop-item.left.now c.loop-item.invariant refl (sym c.goes_on.ensures ∙ c.loop-item-test.true) c.rest_after-item.result.now c.rest_after-item.ensures c.operand-other.result c.operand-other.ensures (sym c.is_code.ensures ∙ c.if-is_code.false) c.get.result c.get.ensures c.joined-made.result (c.joined-made.ensures ∙ ap (λ (b : ℕ). joined c.args.s.now.env.now.mode b c.loop-item.number c.get.result) c.first.ensures) c.get-number-in-loop-item.result c.get-number-in-loop-item.ensures c.last_bytes-left-in-loop-item.result.now c.last_bytes-left-in-loop-item.ensures

pub powers_from-loop-item-preserved : goal.powers_from-loop-item-preserved
powers_from-loop-item-preserved t c = on_step (context c.args.s.now) level.Power c.args.text.now c.loop-item.number c.loop-item.left.now c.loop-item.invariant refl (sym c.goes_on.ensures ∙ c.loop-item-test.true) c.rest_after-item.result.now c.rest_after-item.ensures c.operand-other.result c.operand-other.ensures (sym c.is_code.ensures ∙ c.if-is_code.false) c.get.result c.get.ensures c.joined-made.result (c.joined-made.ensures ∙ ap (λ (b : ℕ). joined c.args.s.now.env.now.mode b c.loop-item.number c.get.result) c.first.ensures) c.get-number-in-loop-item.result c.get-number-in-loop-item.ensures c.last_bytes-left-in-loop-item.result.now c.last_bytes-left-in-loop-item.ensures

pub powers_from-returns : goal.powers_from-returns
powers_from-returns t c = off (context c.args.s.now) level.Power c.args.text.now c.loop-item.number c.loop-item.left.now c.loop-item.invariant refl (sym c.goes_on.ensures ∙ c.loop-item-test.false) (length c.loop-item.left.now) refl c.with.result c.with.ensures

pub factor-power-requires : goal.factor-power-requires
factor-power-requires t c = (omega (arith, c.decreases), each.plain_part c.args.text.now c.requires.phrase (sym c.if-not-has_sign.ensures))

pub factor-returns-then-not-has_sign : goal.factor-returns-then-not-has_sign
factor-returns-then-not-has_sign t c =
    finds_same _ _ _ _ c.power.result (plain_value (context c.args.s.now) c.args.text.now c.requires.phrase (sym c.if-not-has_sign.ensures))
    (each.plain_rest c.args.text.now c.requires.phrase (sym c.if-not-has_sign.ensures)) c.power.ensures

pub factor-power-found-requires : goal.factor-power-found-requires
factor-power-found-requires t c = (
  let a = each.signed_shorter c.args.text.now (sym c.if-not-has_sign.ensures) in let b = ap length c.rest_after.ensures in omega (arith, a, b, c.decreases),
  subst (λ (u : Text). is_phrase row.POWER u ≡ true) (sym c.rest_after.ensures) (each.signed_part c.args.text.now c.requires.phrase (sym c.if-not-has_sign.ensures)),
)

pub factor-returns-then-is_code : goal.factor-returns-then-is_code
factor-returns-then-is_code t c =
    bound_code (under_sign c.args.s.now.env.now.mode (first c.args.text.now)) _ _ _ _ c.power-found.result
    (subst (λ (u : Text). Finds (value (context c.args.s.now) level.Power (tree_at row.POWER u)) (after_phrase row.POWER u) c.power-found.result) c.rest_after.ensures c.power-found.ensures)
    (signed_value (context c.args.s.now) c.args.text.now c.requires.phrase (sym c.if-not-has_sign.ensures)) (sym c.is_code.ensures ∙ c.if-is_code.true)

pub factor-returns : goal.factor-returns
factor-returns t c =
    bound_number (under_sign c.args.s.now.env.now.mode (first c.args.text.now)) _ _ _ _ c.power-found.result c.get.result _
    (subst (λ (u : Text). Finds (value (context c.args.s.now) level.Power (tree_at row.POWER u)) (after_phrase row.POWER u) c.power-found.result) c.rest_after.ensures c.power-found.ensures)
    (signed_value (context c.args.s.now) c.args.text.now c.requires.phrase (sym c.if-not-has_sign.ensures)) (sym c.is_code.ensures ∙ c.if-is_code.false) c.get.ensures
    (c.under_sign.ensures ∙ ap (λ (b : ℕ). under_sign c.args.s.now.env.now.mode b c.get.result) c.first.ensures)
    (λ is. is ∙ ap length (sym (each.signed_rest c.args.text.now c.requires.phrase (sym c.if-not-has_sign.ensures))))

pub call_at-returns : goal.call_at-returns
call_at-returns t c =
    bound_number ((context c.args.s.now).call (get_or c.args.text.now 1 0)) _ _ _ _ c.sum-argument.result c.get.result _
    (subst (λ (u : Text). Finds (value (context c.args.s.now) level.Sum (tree_at row.SUM u)) (after_phrase row.SUM u) c.sum-argument.result) c.rest_after.ensures c.sum-argument.ensures)
    (call_is (context c.args.s.now) c.args.text.now c.requires.phrase) (sym c.is_code.ensures ∙ c.if-is_code.false) c.get.ensures
    (c.call.ensures ∙ ap (λ (b : ℕ). (context c.args.s.now).call b c.get.result) c.at.ensures)
    (λ is. c.saturating_sub.ensures ∙ ap (λ (n : ℕ). n - 1) is ∙ one_less (after_phrase row.SUM (drop 3 c.args.text.now)) ∙ ap length (sym (call_rest c.args.text.now c.requires.phrase)))

pub variable-returns : goal.variable-returns
variable-returns t c =
    scalar_found (context c.args.s.now) c.args.text.now (scalar_named c.first-letter.result c.counted_digit-digit.result) c.scalar.result c.rest_after-rest.result.now c.with.result c.requires.phrase
    c.requires.letter c.in-None.is
    (c.rest_after-rest.ensures ∙ ap (λ (n : ℕ). drop n c.args.text.now) c.plain_width.ensures) (sym c.is_at.ensures ∙ c.if-is_at.false)
    (ap₂ scalar_named c.first-letter.ensures (c.counted_digit-digit.ensures.digit ∙ ap counted_digit c.at.ensures))
    c.scalar.ensures.value c.scalar.ensures.there c.with.ensures

-- an element with two subscripts
pub element-returns : goal.element-returns
element-returns t c =
    let e = context c.args.s.now in
    let text = c.args.text.now in
    let after : c.after_sum-rest.result.now ≡ after_phrase row.SUM (inside text) = c.after_sum-rest.ensures ∙ ap (λ (u : Text). after_phrase row.SUM u) c.requires.inside in
    let item : c.rest_after.result.now ≡ drop 1 (after_phrase row.SUM (inside text)) = c.rest_after.ensures ∙ ap (λ (u : Text). drop 1 u) after in
    let comma : (first (after_phrase row.SUM (inside text)) == byte.comma) ≡ true = ap (λ (u : Text). first u == byte.comma) (sym after) ∙ sym c.if-not-is_at.ensures in
    let row_is : value e level.Sum (tree_at row.SUM (inside text)) ≡ Ok c.get.result = ap (λ (u : Text). value e level.Sum (tree_at row.SUM u)) (sym c.requires.inside) ∙ sym c.sum-row.ensures.number ∙ c.get.ensures in
    bound_number (λ (y : Number). number_in e text (subscript c.get.result) (subscript y)) _ _ _ _ c.sum-column.result c.get-2.result _ c.sum-column.ensures
    (two_is text c.requires.phrase c.requires.letter c.requires.opening e comma
    ∙ ap (λ (a : Answer). a >>= (λ r. value e level.Sum (tree_at row.SUM (drop 1 (after_phrase row.SUM (inside text)))) >>= (λ y. number_in e text (subscript r) (subscript y)))) row_is
    ∙ ap (λ (u : Text). value e level.Sum (tree_at row.SUM u) >>= (λ y. number_in e text (subscript c.get.result) (subscript y))) (sym item))
    (sym c.is_code-2.ensures ∙ c.if-is_code-2.false) c.get-2.ensures
    (c.element_number-2.ensures ∙ (λ i. number_there (record { vars = e.around.own; element = record { global = false; var = plain_array (c.first-2.ensures i) (c.at-2.ensures i); row = c.subscript-at_row.ensures i; column = c.subscript-at_column.ensures i } })))
    (λ is. c.saturating_sub-2.ensures ∙ ap (λ (n : ℕ). n - 1) is ∙ one_less (after_phrase row.SUM c.rest_after.result.now)
    ∙ ap length (ap (λ (u : Text). drop 1 (after_phrase row.SUM u)) item ∙ sym (two_rest text c.requires.phrase c.requires.letter c.requires.opening comma)))
