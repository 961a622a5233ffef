use Rattle.std.proofs.Common.{◌≡◌, true, List, ℕ, Ok, drop, ap, sym, ◌∙◌}
use Rattle.b2_atom.specs.Words.{Text}
use Rattle.b2_atom.specs.declared.rows.TheConstants as row
use Rattle.b2_access.proofs.Dispatch.{ok_map}
use Rattle.b2_rows.specs.Rows.{after_phrase, tree_at}
use Rattle.b2_pack.specs.Specification.{is_specification}
use Rattle.b2_expr.specs.Scope.{Surroundings, surroundings}
use Rattle.b2_expr.specs.Value.{context_of, in_statement}
use Rattle.b2_expr.specs.Workspace.{workspace}
use Rattle.b2_stmt_pack.specs.Fields.{bytes_of_fields}
use Rattle.b2_stmt_pack.proofs.FieldRows.{buffer_text, unpack_fine}
use Rattle.b2_stmt_pack.proofs.fields.unpack_fields.Goals as goal

pub returns-then-is_specification-clause-worked : goal.returns-then-is_specification-clause-worked
returns-then-is_specification-clause-worked c =
    let pairs : bytes_of_fields (context_of (workspace c.args.work.now)) (tree_at row.SPECIFICATION (drop 1 c.args.unit.now)) ≡ Ok c.bytes-then-is_specification.result.now =
    ap (λ (s : Surroundings). bytes_of_fields (in_statement s) (tree_at row.SPECIFICATION (drop 1 c.args.unit.now))) (sym c.surroundings_of.ensures)
    ∙ ap (λ (t : Text). bytes_of_fields (in_statement (surroundings c.surroundings_of.result)) (tree_at row.SPECIFICATION t)) (sym c.rest_after.ensures)
    ∙ c.in-Ok.ensures.0
    ∙ ap (λ (bytes : List ℕ). Ok bytes) (sym c.bytes-then-is_specification.ensures.value) in
    let rest : c.rest_after-then-is_specification.result.now ≡ buffer_text c.args.unit.now =
    c.rest_after-then-is_specification.ensures ∙ ap (λ (t : Text). drop 1 t) (c.in-Ok.ensures.1 ∙ ap (λ (t : Text). after_phrase row.SPECIFICATION t) c.rest_after.ensures) in
    let fine : is_specification c.bytes-then-is_specification.result.now ≡ true =
    ap (λ (bytes : List ℕ). is_specification bytes) (c.bytes-then-is_specification.ensures.value ∙ sym c.bytes.ensures.value) ∙ sym c.is_specification.ensures ∙ c.if-is_specification.true in
    ok_map c.unpack_at.result _ _ (λ code h. unpack_fine c.args.unit.now c.bytes-then-is_specification.result.now c.rest_after-then-is_specification.result.now _ _ c.requires.phrase pairs rest fine h) c.unpack_at.ensures.worked
