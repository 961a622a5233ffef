use Rattle.std.proofs.Common.{rules, ◌≡◌, ◌==◌, ◌∷◌, true, false, List, None, drop, sym, ap, subst, ◌∙◌}
use Rattle.b2_base.specs.Byte as byte
use Rattle.b2_base.specs.Lexical.{first}
use Rattle.b2_atom.specs.Words.{Text}
use Rattle.b2_atom.specs.Tree.{Trees}
use Rattle.b2_atom.specs.declared.rows.TheConstants as row
use Rattle.b2_rows.specs.Rows.{is_phrase, tree_at}
use Rattle.b2_expr.specs.Workspace.{workspace}
use Rattle.b2_stmt.specs.Marked.{take_each, takes_value}
use Rattle.b2_rows.specs.CommaLists.{are_others, others_at, past_first, receivers_at}
use Rattle.b2_stmt.proofs.MarkRows.{value_more}
use Rattle.b2_receiver.proofs.ReceiverLists.{no_items, other_items, other_list, other_part}
use Rattle.b2_stmt.proofs.marked.take_each.Goals as goal

pub returns-then-not-is_at-clause-worked : goal.returns-then-not-is_at-clause-worked
returns-then-not-is_at-clause-worked c =
    let left = c.loop-value.left.now in
    let x = c.in-Some.value.now in
    let xs = c.in-Some.others.now in
    let one = takes_value in
    let same : c.loop-value.values.now ≡ x ∷ xs = search rules in
    let none : c.in_ok-code.code ≡ None = search rules in
    let last : (first (past_first left) == byte.comma) ≡ false = search rules in
    sym (ap (λ (ts : List Trees). take_each one ts xs (workspace c.take_value.new.work)) (no_items (past_first left) last))
    ∙ value_more one (tree_at row.RECEIVER left) (others_at (past_first left)) x xs c.loop-value.values.now (workspace c.loop-value.work) (workspace c.take_value.new.work) c.in_ok-code.code same c.in_ok-code.ensures.worked none
    ∙ c.loop-value.invariant.taken

pub loop-value-preserved : goal.loop-value-preserved
loop-value-preserved c =
    let i = c.loop-value.invariant in
    let left = c.loop-value.left.now in
    let x = c.in-Some.value.now in
    let xs = c.in-Some.others.now in
    let one = takes_value in
    let same : c.loop-value.values.now ≡ x ∷ xs = search rules in
    let none : c.in_ok-code.code ≡ None = search rules in
    let comma : (first (past_first left) == byte.comma) ≡ true = search rules in
    let next : drop 1 (past_first left) ≡ c.rest_after-left.result.now = search rules in
    record {
      part = subst (λ (u : Text). is_phrase row.RECEIVER u ≡ true) next (other_part (past_first left) i.list comma);
      list = subst (λ (u : Text). are_others (past_first u) ≡ true) next (other_list (past_first left) i.list comma);
      taken = sym (ap (λ (u : Text). take_each one (receivers_at u) xs (workspace c.take_value.new.work)) next)
          ∙ sym (ap (λ (ts : List Trees). take_each one ts xs (workspace c.take_value.new.work)) (other_items (past_first left) i.list comma))
          ∙ value_more one (tree_at row.RECEIVER left) (others_at (past_first left)) x xs c.loop-value.values.now (workspace c.loop-value.work) (workspace c.take_value.new.work) c.in_ok-code.code same c.in_ok-code.ensures.worked none
          ∙ i.taken;
      held = (c.take_value.ensures.same_references.0 ∙ i.held.0, c.take_value.ensures.same_references.1 ∙ i.held.1, c.take_value.ensures.same_references.2 ∙ i.held.2);
    }
