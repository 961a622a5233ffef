use Rattle.std.proofs.Common.{subst, Err}
use Rattle.b2_expr.specs.Scope.{Surroundings}
use Rattle.b2_expr.specs.Workspace.{workspace, surroundings_of as seen_by}
use Rattle.b2_access.proofs.Dispatch.{ok_map}
use Rattle.b2_stmt_mat.specs.Arrays.{AnswersBy, families}
use Rattle.b2_stmt_mat.specs.ByteArrays.{byte_items, sorted_bytes}
use Rattle.b2_stmt_mat.proofs.Put.{sort_refused}
use Rattle.b2_stmt_mat.proofs.byte_arrays.sort_elements.Goals as goal

pub returns-in-Err-clause-worked : goal.returns-in-Err-clause-worked
returns-in-Err-clause-worked c =
    let w = workspace c.args.work.now in
    let m = c.args.asked.now in
    let answered = subst (λ (s : Surroundings). AnswersBy byte_items (sorted_bytes m (families s)) (Err c.in-Err.fault)) c.surroundings_of.ensures c.in-Err.ensures.answer in
    ok_map c.refuse_fault.result _ _ (λ code by. sort_refused c.in-Err.fault m.to.global m.to.var (sorted_bytes m (families (seen_by w))) w _ answered by) c.refuse_fault.ensures.worked
