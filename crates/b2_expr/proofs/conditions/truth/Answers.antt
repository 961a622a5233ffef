use Rattle.std.proofs.Common.{Bool, sym, ap₂, ◌∙◌}
use Rattle.b2_expr.specs.Operators.{joined_condition}
use Rattle.b2_expr.specs.Scope.{surroundings}
use Rattle.b2_expr.specs.Value.{in_statement}
use Rattle.b2_expr.proofs.Judging.{condition_coded, condition_started, condition_item, condition_stopped, condition_step, condition_ends}
use Rattle.b2_expr.proofs.conditions.truth.Goals as goal

pub returns-then-is_code : goal.returns-then-is_code
returns-then-is_code c =
    condition_coded (in_statement (surroundings c.args.e.now)) c.args.text.now c.comparison-start.result c.requires.phrase c.comparison-start.ensures (sym c.is_code.ensures ∙ c.if-is_code.true)

pub loop-word-init : goal.loop-word-init
loop-word-init c =
    condition_started (in_statement (surroundings c.args.e.now)) c.args.text.now c.comparison-start.result c.holds-holds.result c.last_bytes-left.result.now c.requires.phrase c.comparison-start.ensures
    (sym c.is_code.ensures ∙ c.if-is_code.false) c.holds-holds.ensures c.last_bytes-left.ensures

pub comparison-other-requires : goal.comparison-other-requires
comparison-other-requires c =
    record {
      phrase = condition_item (in_statement (surroundings c.args.e.now)) c.args.text.now c.loop-word.holds c.loop-word.left.now c.loop-word.invariant (sym c.goes_on.ensures ∙ c.loop-word-test.true)
          c.rest_after-item.result.now c.rest_after-item.ensures;
    }

pub returns-then-is_code-2 : goal.returns-then-is_code-2
returns-then-is_code-2 c =
    condition_stopped (in_statement (surroundings c.args.e.now)) c.args.text.now c.loop-word.holds c.loop-word.left.now c.loop-word.invariant (sym c.goes_on.ensures ∙ c.loop-word-test.true)
    c.rest_after-item.result.now c.rest_after-item.ensures c.comparison-other.result c.comparison-other.ensures (sym c.is_code-in-loop-word.ensures ∙ c.if-is_code-2.true)

pub loop-word-preserved : goal.loop-word-preserved
loop-word-preserved c =
    condition_step (in_statement (surroundings c.args.e.now)) c.args.text.now c.loop-word.holds c.loop-word.left.now c.loop-word.invariant (sym c.goes_on.ensures ∙ c.loop-word-test.true)
    c.rest_after-item.result.now c.rest_after-item.ensures c.comparison-other.result c.comparison-other.ensures (sym c.is_code-in-loop-word.ensures ∙ c.if-is_code-2.false)
    c.joined_condition-holds.result (c.joined_condition-holds.ensures ∙ ap₂ (λ w (b : Bool). joined_condition w c.loop-word.holds b) c.first-word.ensures c.holds.ensures)
    c.last_bytes-left-in-loop-word.result.now c.last_bytes-left-in-loop-word.ensures

pub returns : goal.returns
returns c =
    condition_ends (in_statement (surroundings c.args.e.now)) c.args.text.now c.loop-word.holds c.loop-word.left.now c.loop-word.invariant (sym c.goes_on.ensures ∙ c.loop-word-test.false)
    c.with.result c.with.ensures
