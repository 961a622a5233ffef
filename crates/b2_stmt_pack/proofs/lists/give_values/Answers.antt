use Rattle.std.proofs.Common.{◌≡◌, ◌==◌, true, false, [], drop, None, ap, sym, subst, ◌∙◌, rules}
use Rattle.b2_base.specs.Byte as byte
use Rattle.b2_base.specs.Lexical.{first}
use Rattle.b2_atom.specs.Words.{Text}
use Rattle.b2_atom.specs.declared.rows.TheConstants as row
use Rattle.b2_rows.specs.CommaLists.{commas}
use Rattle.b2_rows.specs.Rows.{after_phrase, is_list, is_phrase, tree_at}
use Rattle.b2_expr.specs.Workspace.{workspace}
use Rattle.b2_stmt_pack.specs.Lists.{items_at, others_at, takes_value}
use Rattle.b2_stmt_pack.proofs.ListRows.{any_items, no_any, any_part, any_list}
use Rattle.b2_stmt_pack.proofs.Taking.{given_more}
use Rattle.b2_stmt_pack.proofs.lists.give_values.Goals as goal

pub returns-then-not-is_at-clause-worked : goal.returns-then-not-is_at-clause-worked
returns-then-not-is_at-clause-worked c =
    let ends : (first (after_phrase row.RECEIVER c.loop-value.left.now) == byte.comma) ≡ false = search rules in
    let none : c.in_ok-code.code ≡ None = search rules in
    given_more takes_value c.args.values.now c.loop-value.value-index c.value-item.result (tree_at row.RECEIVER c.loop-value.left.now) (others_at row.COMMA_RECEIVER (after_phrase row.RECEIVER c.loop-value.left.now)) [] (workspace c.loop-value.work) (workspace c.give_value_at.new.work) c.in_ok-code.code _
    c.loop-value-test.true c.value-item.is (no_any (after_phrase row.RECEIVER c.loop-value.left.now) ends) c.in_ok-code.ensures.worked none c.loop-value.invariant.given

pub loop-value-preserved : goal.loop-value-preserved
loop-value-preserved c =
    let goes : (first (after_phrase row.RECEIVER c.loop-value.left.now) == byte.comma) ≡ true = search rules in
    let none : c.in_ok-code.code ≡ None = search rules in
    let left : c.rest_after-left.result.now ≡ drop 1 (after_phrase row.RECEIVER c.loop-value.left.now) = c.rest_after-left.ensures ∙ ap (λ (u : Text). drop 1 u) c.past_any_receiver-rest.ensures in
    record {
      part = subst (λ (u : Text). is_phrase row.RECEIVER u ≡ true) (sym left) (any_part (after_phrase row.RECEIVER c.loop-value.left.now) c.loop-value.invariant.list goes);
      list = subst (λ (u : Text). is_list commas row.COMMA_RECEIVER (after_phrase row.RECEIVER u) ≡ true) (sym left) (any_list (after_phrase row.RECEIVER c.loop-value.left.now) c.loop-value.invariant.list goes);
      given =
          given_more takes_value c.args.values.now c.loop-value.value-index c.value-item.result (tree_at row.RECEIVER c.loop-value.left.now) (others_at row.COMMA_RECEIVER (after_phrase row.RECEIVER c.loop-value.left.now)) (items_at row.COMMA_RECEIVER row.RECEIVER c.rest_after-left.result.now) (workspace c.loop-value.work) (workspace c.give_value_at.new.work) c.in_ok-code.code _
          c.loop-value-test.true c.value-item.is (any_items (after_phrase row.RECEIVER c.loop-value.left.now) c.loop-value.invariant.list goes ∙ sym (ap (λ (u : Text). items_at row.COMMA_RECEIVER row.RECEIVER u) left)) c.in_ok-code.ensures.worked none c.loop-value.invariant.given;
      held = (c.in_ok-code.ensures.same_references.0 ∙ c.loop-value.invariant.held.0, c.in_ok-code.ensures.same_references.1 ∙ c.loop-value.invariant.held.1, c.in_ok-code.ensures.same_references.2 ∙ c.loop-value.invariant.held.2);
    }
