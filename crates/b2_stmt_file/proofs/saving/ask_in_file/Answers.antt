use Rattle.std.proofs.Common.{◌∙◌, ap, sym, subst, ℕ, Result}
use Rattle.b2_base.specs.declared.files.Slot.{Slot}
use Rattle.b2_atom.specs.Words.{Text}
use Rattle.b2_expr.specs.Answers.{◌>>=◌}
use Rattle.b2_expr.specs.Scope.{surroundings}
use Rattle.b2_expr.specs.Value.{in_statement}
use Rattle.b2_access.specs.declared.accesses.Access.{Access}
use Rattle.b2_drive.specs.Drives.{drives_seen}
use Rattle.b2_stmt_file.specs.Asking.{GivesAccess}
use Rattle.b2_stmt_file.specs.Saving.{saved, what_at}
use Rattle.b2_stmt_file.specs.Slots.{file_used}
use Rattle.b2_stmt_file.proofs.SaveRows.{saved_is, what_text}
use Rattle.b2_stmt_file.proofs.saving.ask_in_file.Goals as goal

pub returns-in-Ok : goal.returns-in-Ok
returns-in-Ok c =
    let e = in_statement (surroundings c.args.e.now) in
    let d = drives_seen c.args.d.now in
    let next : Slot → Result Access ℕ = λ file. saved e file (what_at (what_text c.args.text.now)) in
    let used = ap (λ (n : ℕ). file_used d c.args.slots.now n >>= next) (sym c.slot_written.ensures.value) ∙ ap (λ (r : Result Slot ℕ). r >>= next) (sym c.file_used.ensures ∙ c.in-Ok.is) in
    let at = ap (λ (u : Text). saved e c.in-Ok.slot (what_at u)) c.past_slot.ensures in
    subst (λ (r : Result Access ℕ). GivesAccess r c.ask_for_file.result) (at ∙ sym (saved_is d c.args.slots.now e c.args.text.now c.requires.phrase ∙ used)) c.ask_for_file.ensures

pub returns-in-Err : goal.returns-in-Err
returns-in-Err c =
    let e = in_statement (surroundings c.args.e.now) in
    let d = drives_seen c.args.d.now in
    let next : Slot → Result Access ℕ = λ file. saved e file (what_at (what_text c.args.text.now)) in
    saved_is d c.args.slots.now e c.args.text.now c.requires.phrase
    ∙ ap (λ (n : ℕ). file_used d c.args.slots.now n >>= next) (sym c.slot_written.ensures.value)
    ∙ ap (λ (r : Result Slot ℕ). r >>= next) (sym c.file_used.ensures ∙ c.in-Err.is)
