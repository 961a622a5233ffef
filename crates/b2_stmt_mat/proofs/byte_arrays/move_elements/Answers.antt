use Rattle.std.proofs.Common.{ap, ◌≡◌, ◌∙◌, arith, drop, length}
use Rattle.std.proofs.lemmas.List.{take_at}
use Rattle.b2_expr.specs.Scope.{Surroundings}
use Rattle.b2_expr.specs.Workspace.{workspace, surroundings_of as seen_by}
use Rattle.b2_stmt_mat.specs.Arrays.{families}
use Rattle.b2_stmt_mat.specs.ByteArrays.{bytes_moved, move_code}
use Rattle.b2_stmt_mat.proofs.Put.{moved_put}
use Rattle.b2_stmt_mat.proofs.byte_arrays.move_elements.Goals as goal

pub returns-clause-worked : goal.returns-clause-worked
returns-clause-worked c =
    let w = workspace c.args.work.now in
    let m = c.args.asked.now in
    let moved = c.move_into-code.new.made in
    let made = c.in_ok-made.made in
    let long : length moved ≡ made.len = omega (arith, c.move_into-code.auto.made, c.deref_mut.ensures.len, made.ok) in
    moved_put m (families (seen_by w)) c.deref.result.now c.move_into-code.result w _ c.put_all_bytes.ensures.worked
    (c.deref.ensures.value ∙ take_at moved (drop (length moved) made.items) made.len long ∙ c.move_into-code.ensures.bytes ∙ ap (λ (s : Surroundings). bytes_moved m (families s)) c.surroundings_of-e.ensures)
    (c.move_into-code.ensures.code ∙ ap (λ (s : Surroundings). move_code m (families s)) c.surroundings_of-e.ensures)
