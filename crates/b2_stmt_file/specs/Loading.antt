-- DATALOAD DC: a data file is opened, or values are loaded from the place in an open one.
use Rattle.std.specs.Prelude.{ℕ, ◌==◌, List, drop, Option, Some, None, Result, Ok, Err, if◌then◌else◌}
use Rattle.b2_base.specs.declared.codes.TheConstants.{S20_VARIABLE}
use Rattle.b2_base.specs.declared.files.Slot.{Slot}
use Rattle.b2_dec.specs.declared.values.Value.{Value}
use Rattle.b2_atom.specs.Tree.{Trees}
use Rattle.b2_atom.specs.Tree.Trees.{Done, Put, In}
use Rattle.b2_atom.specs.Words.{Text}
use Rattle.b2_rows.specs.CommaLists.{all_listed}
use Rattle.b2_vars.specs.Globals.{Globals}
use Rattle.b2_expr.specs.Answers.{◌>>=◌}
use Rattle.b2_expr.specs.Scope.{Context}
use Rattle.b2_expr.specs.Workspace.{WorkLeft, WorkState, unchanged, work_in}
use Rattle.b2_access.specs.Lending.{SeenLent}
use Rattle.b2_access.specs.Partition.{setting_of}
use Rattle.b2_access.specs.Planning.{goes_or}
use Rattle.b2_access.specs.Views.{loading_came, opening_came}
use Rattle.b2_access.specs.Working.{FileWorked, leaves_in, on_files, work_of}
use Rattle.b2_access.specs.declared.accesses.Access.{Access}
use Rattle.b2_access.specs.declared.accesses.Access.TheVariants as access
use Rattle.b2_access.specs.declared.accesses.Answer.{Answer}
use Rattle.b2_access.specs.declared.planned.Outcome.TheVariants as outcome
use Rattle.b2_access.specs.declared.private.Private.{Private}
use Rattle.b2_drive.specs.Drives.{DrivesSeen}
use Rattle.b2_stmt_file.specs.FileAnswers.{by_loading, by_opening, end_after, file_ends, outcome_of, slots_after, values_in}
use Rattle.b2_stmt_file.specs.LoadedValues.{all_kinds, all_take}
use Rattle.b2_stmt_file.specs.Opening.{asks_for_old, slot_opened}
use Rattle.b2_stmt_file.specs.Slots.{file_used, slot_in}
use Rattle.b2_stmt_file.specs.declared.file_answers.Came.{Came}
use Rattle.b2_stmt_file.specs.declared.file_answers.Came.TheVariants as came

-- what stands after the two words
abbrev pub operands_text : Text → Text
operands_text t = drop 1 (drop 1 t)

-- the slot first, and then the kinds of the receivers
abbrev pub loads_in : DrivesSeen → List (Option Slot) → Context → Trees → Result Access ℕ
loads_in d slots e (In n slot items) = file_used d slots (slot_in slot) >>= (λ file. all_kinds e.around (all_listed items) >>= (λ kinds. Ok (access.DataLoad file kinds)))
loads_in d slots e t = Err S20_VARIABLE

abbrev pub asks_to_load : DrivesSeen → List (Option Slot) → Context → Trees → Result Access ℕ
asks_to_load d slots e (Put word (Put dc (In k operands end))) = if k == 1 then asks_for_old d e operands else loads_in d slots e operands
asks_to_load d slots e t = Err S20_VARIABLE

abbrev pub slot_loaded : Trees → ℕ
slot_loaded (In n slot items) = slot_in slot
slot_loaded t = 0

abbrev pub items_loaded : Trees → List Trees
items_loaded (In n slot items) = all_listed items
items_loaded t = all_listed Done

-- the receivers take the values that came
abbrev pub takes_by : Came → List Value → List Trees → WorkState → WorkLeft
takes_by (came.File s) values ts w = all_take values ts w
takes_by c values ts w = unchanged w

-- of the `@` variables it tells something where a receiver may have been reached
abbrev pub globals_told : Came → Globals → Option Globals
globals_told (came.File s) g = Some g
globals_told c g = None

-- How it finishes: the place in the file moves, and the flag of IF END changes, before a receiver takes a value; and both stay so
-- where one then fails.
abbrev pub loaded : ℕ → Came → WorkLeft → Private → FileWorked
loaded n c r me = record {
  work = record { work = record (work_of me) { vars = r.work.own; at_end = end_after c me.at_end; globals = globals_told c r.work.globals }; more = slots_after n c me.slots };
  outcome = goes_or (outcome_of c) r.code;
}

abbrev pub load_ends : Came → List Value → Trees → Private → SeenLent → FileWorked
load_ends c values operands me s = loaded (slot_loaded operands) c (takes_by c values (items_loaded operands) (work_in (setting_of me) s.home me.vars s.globals)) me

abbrev pub loading_ends : Access → Answer → Trees → Private → SeenLent → FileWorked
loading_ends x a (Put word (Put dc (In k operands end))) me s =
    if k == 1 then file_ends (slot_opened operands) (by_opening (opening_came x a)) me else load_ends (by_loading (loading_came x a)) (values_in (loading_came x a)) operands me s
loading_ends x a t me s = leaves_in on_files me outcome.Repeat
