-- DATASAVE DC: a data file is made and opened, or a record of values or the end mark is saved at the place in an open one.
use Rattle.std.specs.Prelude.{ℕ, ◌==◌, List, Option, Result, Ok, Err, if◌then◌else◌}
use Rattle.b2_base.specs.declared.codes.TheConstants.{S17_NUMERIC}
use Rattle.b2_base.specs.declared.files.Slot.{Slot}
use Rattle.b2_atom.specs.Tree.{Trees}
use Rattle.b2_atom.specs.Tree.Trees.{Done, Put, In}
use Rattle.b2_atom.specs.Words.{Text}
use Rattle.b2_atom.specs.Grammar.{starts}
use Rattle.b2_atom.specs.declared.words.Origin.TheVariants.{Atoms}
use Rattle.b2_atom.specs.declared.words.TheConstants as word
use Rattle.b2_atom.specs.declared.rows.TheConstants as row
use Rattle.b2_atom.specs.declared.forms.Start.TheVariants as start
use Rattle.b2_rows.specs.CommaLists.{all_listed}
use Rattle.b2_rows.specs.Rows.{tree_at}
use Rattle.b2_expr.specs.Answers.{◌>>=◌}
use Rattle.b2_expr.specs.Scope.{Context}
use Rattle.b2_access.specs.Views.{opening_came, place_came}
use Rattle.b2_access.specs.Working.{FileWorked}
use Rattle.b2_access.specs.declared.accesses.Access.{Access}
use Rattle.b2_access.specs.declared.accesses.Access.TheVariants as access
use Rattle.b2_access.specs.declared.accesses.Answer.{Answer}
use Rattle.b2_access.specs.declared.private.Private.{Private}
use Rattle.b2_drive.specs.Drives.{DrivesSeen}
use Rattle.b2_stmt_file.specs.FileAnswers.{by_opening, by_place, file_ends}
use Rattle.b2_stmt_file.specs.Opening.{asks_for_new, slot_opened}
use Rattle.b2_stmt_file.specs.SavedValues.{all_saved}
use Rattle.b2_stmt_file.specs.Slots.{file_used, slot_in}
use Rattle.b2_stmt_file.specs.declared.file_answers.Came.{Came}
use Rattle.b2_stmt_file.specs.declared.file_answers.Came.TheVariants as came

-- the end mark, or a record
abbrev pub saved : Context → Slot → Trees → Result Access ℕ
saved e file (In k what end) = if k == 1 then Ok (access.DataEnd file) else all_saved e (all_listed what) >>= (λ xs. Ok (access.DataSave file xs))
saved e file t = Err S17_NUMERIC

-- what stands at a text after the slot
abbrev pub what_at : Text → Trees
what_at t = if starts Atoms (start.Code word.END) t then In 1 (tree_at row.END t) Done else In 0 (tree_at row.SAVED_LIST t) Done

-- the slot first
abbrev pub saves_in : DrivesSeen → List (Option Slot) → Context → Trees → Result Access ℕ
saves_in d slots e (In n slot what) = file_used d slots (slot_in slot) >>= (λ file. saved e file what)
saves_in d slots e t = Err S17_NUMERIC

abbrev pub asks_to_save : DrivesSeen → List (Option Slot) → Context → Trees → Result Access ℕ
asks_to_save d slots e (Put word (Put dc (In k operands end))) = if k == 1 then asks_for_new d e operands else saves_in d slots e operands
asks_to_save d slots e t = Err S17_NUMERIC

abbrev pub slot_saved : Trees → ℕ
slot_saved (In n slot what) = slot_in slot
slot_saved t = 0

-- whether it opens, its slot, and what comes of its access
abbrev pub slot_of : Trees → ℕ
slot_of (Put word (Put dc (In k operands end))) = if k == 1 then slot_opened operands else slot_saved operands
slot_of t = 0

abbrev pub came_of : Access → Answer → Trees → Came
came_of x a (Put word (Put dc (In k operands end))) = if k == 1 then by_opening (opening_came x a) else by_place (place_came x a)
came_of x a t = came.Later

-- how it finishes
abbrev pub saving_ends : Access → Answer → Trees → Private → FileWorked
saving_ends x a t me = file_ends (slot_of t) (came_of x a t) me
