use Rattle.std.proofs.Common.{◌≡◌, Ok, drop, subst, rules}
use Rattle.b2_base.specs.Refusals.{IsRefused}
use Rattle.b2_atom.specs.Words.{Text}
use Rattle.b2_atom.specs.declared.rows.TheConstants as row
use Rattle.b2_access.proofs.Dispatch.{ok_map}
use Rattle.b2_rows.specs.Rows.{after_phrase, tree_at}
use Rattle.b2_expr.specs.Scope.{Surroundings, surroundings}
use Rattle.b2_expr.specs.Value.{context_of, in_statement}
use Rattle.b2_expr.specs.Workspace.{workspace}
use Rattle.b2_receiver.specs.Receivers.{buffer}
use Rattle.b2_stmt_pack.specs.Numbers.{numbers_packed}
use Rattle.b2_stmt_pack.specs.Lists.{each_of, items_at, number_of}
use Rattle.b2_stmt_pack.proofs.Taking.{packs_refused}
use Rattle.b2_stmt_pack.proofs.numbers.pack_at.Goals as goal

pub returns-in-Err-numbers_at-clause-worked : goal.returns-in-Err-numbers_at-clause-worked
returns-in-Err-numbers_at-clause-worked c =
    let found : buffer (context_of (workspace c.args.work.now)) (tree_at row.BUFFER c.args.text.now) ≡ Ok c.in-Ok.to = search rules in
    let here : c.rest_after.result.now ≡ drop 1 (after_phrase row.BUFFER c.args.text.now) = search rules in
    let refused =
    subst (λ (s : Surroundings). IsRefused (each_of (number_of (in_statement s)) (items_at row.COMMA_NUMBER row.SUM (drop 1 (after_phrase row.BUFFER c.args.text.now)))) c.in-Err-numbers_at.fault) c.surroundings_of-2.ensures
    (subst (λ (t : Text). IsRefused (each_of (number_of (in_statement (surroundings c.surroundings_of-2.result))) (items_at row.COMMA_NUMBER row.SUM t)) c.in-Err-numbers_at.fault) here c.in-Err-numbers_at.ensures.refused) in
    ok_map c.code_of_fault.result _ _ (λ code coded. packs_refused (numbers_packed c.args.image.now) _ c.in-Ok.to _ c.in-Err-numbers_at.fault code _ found refused coded) c.code_of_fault.ensures.code
