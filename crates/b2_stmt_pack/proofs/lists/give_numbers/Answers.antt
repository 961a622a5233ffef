use Rattle.std.proofs.Common.{◌≡◌, ◌==◌, true, false, [], drop, None, ap, sym, subst, ◌∙◌, rules}
use Rattle.b2_base.specs.Byte as byte
use Rattle.b2_base.specs.Lexical.{first}
use Rattle.b2_atom.specs.Words.{Text}
use Rattle.b2_atom.specs.declared.rows.TheConstants as row
use Rattle.b2_rows.specs.CommaLists.{commas}
use Rattle.b2_rows.specs.Rows.{after_phrase, is_list, is_phrase, tree_at}
use Rattle.b2_expr.specs.Workspace.{workspace}
use Rattle.b2_stmt_pack.specs.Lists.{items_at, others_at, takes_number}
use Rattle.b2_stmt_pack.proofs.ListRows.{receiver_items, no_receivers, receiver_part, receiver_list}
use Rattle.b2_stmt_pack.proofs.Taking.{given_more}
use Rattle.b2_stmt_pack.proofs.lists.give_numbers.Goals as goal

pub returns-then-not-is_at-clause-worked : goal.returns-then-not-is_at-clause-worked
returns-then-not-is_at-clause-worked c =
    let ends : (first (after_phrase row.NUMERIC_RECEIVER c.loop-x.left.now) == byte.comma) ≡ false = search rules in
    let none : c.in_ok-code.code ≡ None = search rules in
    given_more takes_number c.args.xs.now c.loop-x.x-index c.x-item.result (tree_at row.NUMERIC_RECEIVER c.loop-x.left.now) (others_at row.COMMA_NUMERIC_RECEIVER (after_phrase row.NUMERIC_RECEIVER c.loop-x.left.now)) [] (workspace c.loop-x.work) (workspace c.assign_number_at.new.work) c.in_ok-code.code _
    c.loop-x-test.true c.x-item.is (no_receivers (after_phrase row.NUMERIC_RECEIVER c.loop-x.left.now) ends) c.in_ok-code.ensures.worked none c.loop-x.invariant.given

pub loop-x-preserved : goal.loop-x-preserved
loop-x-preserved c =
    let goes : (first (after_phrase row.NUMERIC_RECEIVER c.loop-x.left.now) == byte.comma) ≡ true = search rules in
    let none : c.in_ok-code.code ≡ None = search rules in
    let left : c.rest_after-left.result.now ≡ drop 1 (after_phrase row.NUMERIC_RECEIVER c.loop-x.left.now) = c.rest_after-left.ensures ∙ ap (λ (u : Text). drop 1 u) c.past_number_receiver-rest.ensures in
    record {
      part = subst (λ (u : Text). is_phrase row.NUMERIC_RECEIVER u ≡ true) (sym left) (receiver_part (after_phrase row.NUMERIC_RECEIVER c.loop-x.left.now) c.loop-x.invariant.list goes);
      list = subst (λ (u : Text). is_list commas row.COMMA_NUMERIC_RECEIVER (after_phrase row.NUMERIC_RECEIVER u) ≡ true) (sym left) (receiver_list (after_phrase row.NUMERIC_RECEIVER c.loop-x.left.now) c.loop-x.invariant.list goes);
      given =
          given_more takes_number c.args.xs.now c.loop-x.x-index c.x-item.result (tree_at row.NUMERIC_RECEIVER c.loop-x.left.now) (others_at row.COMMA_NUMERIC_RECEIVER (after_phrase row.NUMERIC_RECEIVER c.loop-x.left.now)) (items_at row.COMMA_NUMERIC_RECEIVER row.NUMERIC_RECEIVER c.rest_after-left.result.now) (workspace c.loop-x.work) (workspace c.assign_number_at.new.work) c.in_ok-code.code _
          c.loop-x-test.true c.x-item.is (receiver_items (after_phrase row.NUMERIC_RECEIVER c.loop-x.left.now) c.loop-x.invariant.list goes ∙ sym (ap (λ (u : Text). items_at row.COMMA_NUMERIC_RECEIVER row.NUMERIC_RECEIVER u) left)) c.in_ok-code.ensures.worked none c.loop-x.invariant.given;
      held = (c.in_ok-code.ensures.same_references.0 ∙ c.loop-x.invariant.held.0, c.in_ok-code.ensures.same_references.1 ∙ c.loop-x.invariant.held.1, c.in_ok-code.ensures.same_references.2 ∙ c.loop-x.invariant.held.2);
    }
