use Rattle.std.proofs.Common.{rules, ◌≡◌, ◌==◌, ◌∷◌, true, false, Bool, List, length, drop, sym, ap, subst, ◌∙◌}
use Rattle.b2_base.specs.Byte as byte
use Rattle.b2_base.specs.Lexical.{first}
use Rattle.b2_atom.specs.Words.{Text}
use Rattle.b2_atom.specs.Tree.{Trees}
use Rattle.b2_atom.specs.declared.rows.TheConstants as row
use Rattle.b2_rows.specs.Rows.{is_phrase, tree_at}
use Rattle.b2_stmt.specs.Marked.{values_fit, takes_bytes}
use Rattle.b2_expr.specs.Kinds.{suits}
use Rattle.b2_rows.specs.CommaLists.{are_others, others_at, past_first, receivers_at}
use Rattle.b2_stmt.proofs.MarkRows.{kind_is, last_fits, same_fits}
use Rattle.b2_receiver.proofs.ReceiverLists.{no_items, other_items, other_list, other_part}
use Rattle.b2_stmt.proofs.marked.values_fit.Goals as goal

pub returns-then-not-is_at : goal.returns-then-not-is_at
returns-then-not-is_at c =
    let i = c.loop-value.invariant in
    let left = c.loop-value.left.now in
    let x = c.in-Some.value.now in
    let xs = c.in-Some.others.now in
    let same : c.loop-value.values.now ≡ x ∷ xs = search rules in
    let suited : suits c.is_alpha_at.result x ≡ true = search rules in
    let suit : suits (takes_bytes (tree_at row.RECEIVER left)) x ≡ true = ap (λ (b : Bool). suits b x) (kind_is left i.part ∙ sym c.is_alpha_at.ensures) ∙ suited in
    let last : (first (past_first left) == byte.comma) ≡ false = search rules in
    let empty : c.is_empty.result ≡ (length xs == 0) = search rules in
    empty ∙ sym (last_fits xs) ∙ sym (ap (λ (ts : List Trees). values_fit ts xs) (no_items (past_first left) last))
    ∙ sym (same_fits (tree_at row.RECEIVER left) (others_at (past_first left)) x xs c.loop-value.values.now same suit)
    ∙ i.fit

pub loop-value-preserved : goal.loop-value-preserved
loop-value-preserved c =
    let i = c.loop-value.invariant in
    let left = c.loop-value.left.now in
    let x = c.in-Some.value.now in
    let xs = c.in-Some.others.now in
    let same : c.loop-value.values.now ≡ x ∷ xs = search rules in
    let suited : suits c.is_alpha_at.result x ≡ true = search rules in
    let suit : suits (takes_bytes (tree_at row.RECEIVER left)) x ≡ true = ap (λ (b : Bool). suits b x) (kind_is left i.part ∙ sym c.is_alpha_at.ensures) ∙ suited in
    let comma : (first (past_first left) == byte.comma) ≡ true = search rules in
    let next : drop 1 (past_first left) ≡ c.rest_after-left.result.now = search rules in
    record {
      part = subst (λ (u : Text). is_phrase row.RECEIVER u ≡ true) next (other_part (past_first left) i.list comma);
      list = subst (λ (u : Text). are_others (past_first u) ≡ true) next (other_list (past_first left) i.list comma);
      fit = sym (ap (λ (u : Text). values_fit (receivers_at u) xs) next)
          ∙ sym (ap (λ (ts : List Trees). values_fit ts xs) (other_items (past_first left) i.list comma))
          ∙ sym (same_fits (tree_at row.RECEIVER left) (others_at (past_first left)) x xs c.loop-value.values.now same suit)
          ∙ i.fit;
    }
