use Rattle.std.proofs.Common.{◌≡◌, ◌∙◌, ℕ, ℤ, true, false, List, [], ◌∷◌, drop, Some, IfOk, rules, sym, ap, subst, to_z, of_z, w64}
use Rattle.b2_atom.specs.declared.rows.TheConstants as row
use Rattle.b2_rows.specs.Rows.{tree_at}
use Rattle.b2_expr.specs.Workspace.{WorkLeft, workspace}
use Rattle.b2_stmt_disk.specs.Limits.{after_name, gives_each, gives_file, numbers_of, numbers_told, receivers_in}
use Rattle.b2_stmt_disk.specs.Receivers.{AreReceivers, is_fourth_after, receivers_at}
use Rattle.b2_stmt_disk.proofs.LimitsRows.{file_four, file_three, four_given, none_given, receivers_text, three_given}
use Rattle.b2_stmt_disk.proofs.limits.give_file.Goals as goal

pub has_fourth-requires : goal.has_fourth-requires
has_fourth-requires c =
    let at : c.rest_after-receivers.result.now ≡ receivers_text c.args.text.now = c.rest_after-receivers.ensures ∙ ap (drop 1) c.past_alpha.ensures in
    record { stand = subst (AreReceivers 3) (sym at) (file_three c.args.text.now c.requires.phrase) }

pub give_each-requires : goal.give_each-requires
give_each-requires c =
    let at : c.rest_after-receivers.result.now ≡ receivers_text c.args.text.now = c.rest_after-receivers.ensures ∙ ap (drop 1) c.past_alpha.ensures in
    let is : is_fourth_after (receivers_text c.args.text.now) ≡ true = ap is_fourth_after (sym at) ∙ sym c.if-has_fourth.ensures in
    record { stand = subst (AreReceivers 4) (sym at) (file_four c.args.text.now c.requires.phrase is) }

pub returns-then-has_fourth-clause-worked : goal.returns-then-has_fourth-clause-worked
returns-then-has_fourth-clause-worked c =
    let at : c.rest_after-receivers.result.now ≡ receivers_text c.args.text.now = c.rest_after-receivers.ensures ∙ ap (drop 1) c.past_alpha.ensures in
    let is : is_fourth_after (receivers_text c.args.text.now) ≡ true = ap is_fourth_after (sym at) ∙ sym c.if-has_fourth.ensures in
    let n = numbers_told c.args.told in
    let same : gives_file n (receivers_in (after_name (tree_at row.FILE_LIMITS c.args.text.now))) (workspace c.args.work.now)
    ≡ gives_each (numbers_of n) (receivers_at 4 c.rest_after-receivers.result.now) (workspace c.args.work.now) =
    four_given n c.args.text.now (workspace c.args.work.now) c.requires.phrase is
    ∙ ap (λ (u : List ℕ). gives_each (numbers_of n) (receivers_at 4 u) (workspace c.args.work.now)) (sym at) in
    let first : to_z w64 (of_z w64 n.first) ≡ n.first = search rules in
    let second : to_z w64 (of_z w64 n.second) ≡ n.second = search rules in
    let third : to_z w64 (of_z w64 n.third) ≡ n.third = search rules in
    let fourth : to_z w64 (of_z w64 n.fourth) ≡ n.fourth = search rules in
    let Left : ℤ → ℤ → ℤ → ℤ → Type 0 = λ x y z u.
    IfOk c.give_each.result
    (λ code. ◌≡◌ {A = WorkLeft} (record { work = workspace c.give_each.new.work; code = code }) (gives_each (x ∷ y ∷ z ∷ u ∷ []) (receivers_at 4 c.rest_after-receivers.result.now) (workspace c.args.work.now))) in
    let left : Left (to_z w64 (of_z w64 n.first)) (to_z w64 (of_z w64 n.second)) (to_z w64 (of_z w64 n.third)) (to_z w64 (of_z w64 n.fourth)) = c.give_each.ensures.worked in
    rw same
    (subst (λ (x : ℤ). Left x n.second n.third n.fourth) first
    (subst (λ (y : ℤ). Left (to_z w64 (of_z w64 n.first)) y n.third n.fourth) second
    (subst (λ (z : ℤ). Left (to_z w64 (of_z w64 n.first)) (to_z w64 (of_z w64 n.second)) z n.fourth) third
    (subst (λ (u : ℤ). Left (to_z w64 (of_z w64 n.first)) (to_z w64 (of_z w64 n.second)) (to_z w64 (of_z w64 n.third)) u) fourth left))))

pub returns-then-is_absent-clause-worked : goal.returns-then-is_absent-clause-worked
returns-then-is_absent-clause-worked c =
    let at : c.rest_after-receivers.result.now ≡ receivers_text c.args.text.now = c.rest_after-receivers.ensures ∙ ap (drop 1) c.past_alpha.ensures in
    let is : is_fourth_after (receivers_text c.args.text.now) ≡ false = ap is_fourth_after (sym at) ∙ sym c.if-has_fourth.ensures in
    let with_code : ℕ → WorkLeft = λ code. record { work = workspace c.args.work.now; code = Some code } in
    ap with_code c.known.ensures ∙ sym (none_given (numbers_told c.args.told) c.args.text.now (workspace c.args.work.now) c.requires.phrase is (sym c.if-is_absent.ensures))

pub give_each-requires-2 : goal.give_each-requires-2
give_each-requires-2 c =
    let at : c.rest_after-receivers.result.now ≡ receivers_text c.args.text.now = c.rest_after-receivers.ensures ∙ ap (drop 1) c.past_alpha.ensures in
    record { stand = subst (AreReceivers 3) (sym at) (file_three c.args.text.now c.requires.phrase) }

pub returns-clause-worked : goal.returns-clause-worked
returns-clause-worked c =
    let at : c.rest_after-receivers.result.now ≡ receivers_text c.args.text.now = c.rest_after-receivers.ensures ∙ ap (drop 1) c.past_alpha.ensures in
    let is : is_fourth_after (receivers_text c.args.text.now) ≡ false = ap is_fourth_after (sym at) ∙ sym c.if-has_fourth.ensures in
    let n = numbers_told c.args.told in
    let same : gives_file n (receivers_in (after_name (tree_at row.FILE_LIMITS c.args.text.now))) (workspace c.args.work.now)
    ≡ gives_each (n.first ∷ n.second ∷ n.third ∷ []) (receivers_at 3 c.rest_after-receivers.result.now) (workspace c.args.work.now) =
    three_given n c.args.text.now (workspace c.args.work.now) c.requires.phrase is (sym c.if-is_absent.ensures)
    ∙ ap (λ (u : List ℕ). gives_each (n.first ∷ n.second ∷ n.third ∷ []) (receivers_at 3 u) (workspace c.args.work.now)) (sym at) in
    let first : to_z w64 (of_z w64 n.first) ≡ n.first = search rules in
    let second : to_z w64 (of_z w64 n.second) ≡ n.second = search rules in
    let third : to_z w64 (of_z w64 n.third) ≡ n.third = search rules in
    let Left : ℤ → ℤ → ℤ → Type 0 = λ x y z.
    IfOk c.give_each-2.result
    (λ code. ◌≡◌ {A = WorkLeft} (record { work = workspace c.give_each-2.new.work; code = code }) (gives_each (x ∷ y ∷ z ∷ []) (receivers_at 3 c.rest_after-receivers.result.now) (workspace c.args.work.now))) in
    let left : Left (to_z w64 (of_z w64 n.first)) (to_z w64 (of_z w64 n.second)) (to_z w64 (of_z w64 n.third)) = c.give_each-2.ensures.worked in
    rw same
    (subst (λ (x : ℤ). Left x n.second n.third) first
    (subst (λ (y : ℤ). Left (to_z w64 (of_z w64 n.first)) y n.third) second (subst (λ (z : ℤ). Left (to_z w64 (of_z w64 n.first)) (to_z w64 (of_z w64 n.second)) z) third left)))
