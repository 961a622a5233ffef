use Rattle.std.proofs.Common.{◌≡◌, ◌∙◌, ◌==◌, ap, sym, subst, true, false, drop, Ok, None}
use Rattle.b2_base.specs.Byte as byte
use Rattle.b2_base.specs.Lexical.{first}
use Rattle.b2_atom.specs.declared.rows.TheConstants as row
use Rattle.b2_atom.specs.Words.{Text}
use Rattle.b2_rows.specs.Rows.{after_phrase, is_phrase, tree_at}
use Rattle.b2_expr.specs.Scope.{Surroundings}
use Rattle.b2_expr.specs.Value.{context_of, in_statement}
use Rattle.b2_expr.specs.Workspace.{workspace}
use Rattle.b2_stmt_file.specs.LoadedValues.{each_takes, item_located, items_at, left_of}
use Rattle.b2_stmt_file.proofs.LoadedRows.{Others, item_last, item_took, other_list, other_part}
use Rattle.b2_stmt_file.proofs.Tests.{is_none}
use Rattle.b2_stmt_file.proofs.loaded_values.take_values.Goals as goal

pub returns-then-not-is_at-clause-worked : goal.returns-then-not-is_at-clause-worked
returns-then-not-is_at-clause-worked c =
    let at : Text = c.loop-found.left.now in
    let located : item_located (context_of (workspace c.loop-found.work)) (tree_at row.LOADED at) ≡ Ok c.in-Ok.found.0 =
    ap (λ (s : Surroundings). item_located (in_statement s) (tree_at row.LOADED at)) (sym c.surroundings_of.ensures) ∙ c.in-Ok.ensures.place.0 in
    let none : c.in_ok-code.code ≡ None = is_none c.in_ok-code.code (sym c.if-is_some.ensures) in
    let comma : (first (after_phrase row.LOADED at) == byte.comma) ≡ false =
    ap (λ (u : Text). first u == byte.comma) (sym c.in-Ok.ensures.place.1) ∙ sym c.if-not-is_at.ensures in
    ap left_of
    (sym (item_last c.args.values.now at c.in-Ok.found.0 (workspace c.loop-found.work) (workspace c.take_at.new.work) c.loop-found.next c.take_at.new.next c.in_ok-code.code located c.in_ok-code.ensures.worked none comma)
    ∙ c.loop-found.invariant.taken)

pub loop-found-preserved : goal.loop-found-preserved
loop-found-preserved c =
    let at : Text = c.loop-found.left.now in
    let located : item_located (context_of (workspace c.loop-found.work)) (tree_at row.LOADED at) ≡ Ok c.in-Ok.found.0 =
    ap (λ (s : Surroundings). item_located (in_statement s) (tree_at row.LOADED at)) (sym c.surroundings_of.ensures) ∙ c.in-Ok.ensures.place.0 in
    let none : c.in_ok-code.code ≡ None = is_none c.in_ok-code.code (sym c.if-is_some.ensures) in
    let comma : (first (after_phrase row.LOADED at) == byte.comma) ≡ true =
    ap (λ (u : Text). first u == byte.comma) (sym c.in-Ok.ensures.place.1) ∙ sym c.if-not-is_at.ensures in
    let moved : c.rest_after-left.result.now ≡ drop 1 (after_phrase row.LOADED at) = c.rest_after-left.ensures ∙ ap (drop 1) c.in-Ok.ensures.place.1 in
    record {
      part = subst (λ (u : Text). is_phrase row.LOADED u ≡ true) (sym moved) (other_part (after_phrase row.LOADED at) c.loop-found.invariant.list comma);
      list = subst (λ (u : Text). Others (after_phrase row.LOADED u)) (sym moved) (other_list (after_phrase row.LOADED at) c.loop-found.invariant.list comma);
      taken =
          ap (λ (u : Text). each_takes c.args.values.now (items_at u) (workspace c.take_at.new.work) c.take_at.new.next) moved
          ∙ item_took c.args.values.now at c.in-Ok.found.0 (workspace c.loop-found.work) (workspace c.take_at.new.work) c.loop-found.next c.take_at.new.next c.in_ok-code.code located c.in_ok-code.ensures.worked none c.loop-found.invariant.list comma
          ∙ c.loop-found.invariant.taken;
      held = (c.in_ok-code.ensures.same_references.0 ∙ c.loop-found.invariant.held.0, c.in_ok-code.ensures.same_references.1 ∙ c.loop-found.invariant.held.1, c.in_ok-code.ensures.same_references.2 ∙ c.loop-found.invariant.held.2);
    }
