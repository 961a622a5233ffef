use Rattle.std.proofs.Common.{◌∙◌, ap, sym, List, ℕ, Result, Ok}
use Rattle.b2_atom.specs.declared.rows.TheConstants as row
use Rattle.b2_dec.specs.declared.values.Value.{Value}
use Rattle.b2_rows.specs.CommaLists.{all_listed}
use Rattle.b2_rows.specs.Rows.{tree_at}
use Rattle.b2_access.specs.declared.accesses.Access.{Access}
use Rattle.b2_access.specs.declared.accesses.Access.TheVariants as access
use Rattle.b2_expr.specs.Answers.{◌>>=◌}
use Rattle.b2_expr.specs.Scope.{surroundings}
use Rattle.b2_expr.specs.Value.{in_statement}
use Rattle.b2_stmt_file.specs.SavedValues.{all_saved}
use Rattle.b2_stmt_file.specs.Saving.{saved, what_at}
use Rattle.b2_stmt_file.proofs.SaveRows.{saved_end, saved_list}
use Rattle.b2_stmt_file.proofs.SavedRows.{refused_so}
use Rattle.b2_stmt_file.proofs.saving.ask_for_file.Goals as goal

pub returns-then-is_at : goal.returns-then-is_at
returns-then-is_at c = saved_end (in_statement (surroundings c.args.e.now)) c.args.slot c.args.text.now (sym c.if-is_at.ensures)

pub returns-in-Ok : goal.returns-in-Ok
returns-in-Ok c =
    let next : List Value → Result Access ℕ = λ xs. Ok (access.DataSave c.args.slot xs) in
    saved_list (in_statement (surroundings c.args.e.now)) c.args.slot c.args.text.now (sym c.if-is_at.ensures)
    ∙ ap (λ (r : Result (List Value) ℕ). r >>= next) c.in-Ok.ensures

pub returns-in-Err : goal.returns-in-Err
returns-in-Err c =
    let e = in_statement (surroundings c.args.e.now) in
    let next : List Value → Result Access ℕ = λ xs. Ok (access.DataSave c.args.slot xs) in
    refused_so (all_saved e (all_listed (tree_at row.SAVED_LIST c.args.text.now))) (saved e c.args.slot (what_at c.args.text.now)) c.in-Err.fault
    (λ n is. saved_list e c.args.slot c.args.text.now (sym c.if-is_at.ensures) ∙ ap (λ (r : Result (List Value) ℕ). r >>= next) is) c.in-Err.ensures
