use Rattle.std.proofs.Common.{◌∙◌, ap, sym, List, ℕ, Result, Ok}
use Rattle.b2_base.specs.declared.files.Slot.{Slot}
use Rattle.b2_dec.specs.declared.values.Kind.{Kind}
use Rattle.b2_atom.specs.declared.rows.TheConstants as row
use Rattle.b2_atom.specs.Words.{Text}
use Rattle.b2_rows.specs.Rows.{tree_at}
use Rattle.b2_expr.specs.Answers.{◌>>=◌}
use Rattle.b2_expr.specs.Scope.{surroundings}
use Rattle.b2_expr.specs.Value.{in_statement}
use Rattle.b2_access.specs.declared.accesses.Access.{Access}
use Rattle.b2_access.specs.declared.accesses.Access.TheVariants as access
use Rattle.b2_drive.specs.Drives.{drives_seen}
use Rattle.b2_stmt_file.specs.LoadedValues.{all_kinds, items_at}
use Rattle.b2_stmt_file.specs.Loading.{loads_in}
use Rattle.b2_stmt_file.specs.Slots.{file_used}
use Rattle.b2_stmt_file.proofs.LoadRows.{items_text, loads_are}
use Rattle.b2_stmt_file.proofs.SavedRows.{refused_so}
use Rattle.b2_stmt_file.proofs.loading.ask_for_values.Goals as goal

pub returns-in-Ok-kinds_at : goal.returns-in-Ok-kinds_at
returns-in-Ok-kinds_at c =
    let e = surroundings c.args.e.now in
    let d = drives_seen c.args.d.now in
    let asks : Slot → List Kind → Result Access ℕ = λ file kinds. Ok (access.DataLoad file kinds) in
    let next : Slot → Result Access ℕ = λ file. all_kinds e (items_at (items_text c.args.text.now)) >>= asks file in
    loads_are d c.args.slots.now (in_statement e) c.args.text.now c.requires.phrase
    ∙ ap (λ (n : ℕ). file_used d c.args.slots.now n >>= next) (sym c.slot_written.ensures.value)
    ∙ ap (λ (r : Result Slot ℕ). r >>= next) (sym c.file_used.ensures ∙ c.in-Ok.is)
    ∙ ap (λ (u : Text). all_kinds e (items_at u) >>= asks c.in-Ok.slot) (sym c.past_slot.ensures)
    ∙ ap (λ (r : Result (List Kind) ℕ). r >>= asks c.in-Ok.slot) c.in-Ok-kinds_at.ensures

pub returns-in-Err-kinds_at : goal.returns-in-Err-kinds_at
returns-in-Err-kinds_at c =
    let e = surroundings c.args.e.now in
    let d = drives_seen c.args.d.now in
    let asks : Slot → List Kind → Result Access ℕ = λ file kinds. Ok (access.DataLoad file kinds) in
    let next : Slot → Result Access ℕ = λ file. all_kinds e (items_at (items_text c.args.text.now)) >>= asks file in
    refused_so (all_kinds e (items_at c.past_slot.result.now)) (loads_in d c.args.slots.now (in_statement e) (tree_at row.LOADED_VALUES c.args.text.now)) c.in-Err-kinds_at.fault
    (λ n is.
    loads_are d c.args.slots.now (in_statement e) c.args.text.now c.requires.phrase
    ∙ ap (λ (n : ℕ). file_used d c.args.slots.now n >>= next) (sym c.slot_written.ensures.value)
    ∙ ap (λ (r : Result Slot ℕ). r >>= next) (sym c.file_used.ensures ∙ c.in-Ok.is)
    ∙ ap (λ (u : Text). all_kinds e (items_at u) >>= asks c.in-Ok.slot) (sym c.past_slot.ensures)
    ∙ ap (λ (r : Result (List Kind) ℕ). r >>= asks c.in-Ok.slot) is)
    c.in-Err-kinds_at.ensures

pub returns-in-Err : goal.returns-in-Err
returns-in-Err c =
    let e = surroundings c.args.e.now in
    let d = drives_seen c.args.d.now in
    let asks : Slot → List Kind → Result Access ℕ = λ file kinds. Ok (access.DataLoad file kinds) in
    let next : Slot → Result Access ℕ = λ file. all_kinds e (items_at (items_text c.args.text.now)) >>= asks file in
    loads_are d c.args.slots.now (in_statement e) c.args.text.now c.requires.phrase
    ∙ ap (λ (n : ℕ). file_used d c.args.slots.now n >>= next) (sym c.slot_written.ensures.value)
    ∙ ap (λ (r : Result Slot ℕ). r >>= next) (sym c.file_used.ensures ∙ c.in-Err.is)
