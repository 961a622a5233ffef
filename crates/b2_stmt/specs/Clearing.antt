-- CLEAR, CLEAR P, DEFFN @PART and SELECT @PART: what they ask of the store, and how they finish.
use Rattle.std.specs.Prelude.{ℕ, List, ◌==◌, ◌||◌, Bool, true, [], ◌∷◌, ◌++◌, codes, Option, None, Some, unwrap_or, if◌then◌else◌}
use Rattle.std.specs.FinMap as map
use Rattle.b2_base.specs.Byte as byte
use Rattle.b2_base.specs.declared.codes.TheConstants.{A08_TEXT_BORROWED}
use Rattle.b2_atom.specs.Tree.{Trees}
use Rattle.b2_atom.specs.Tree.Trees.{Put}
use Rattle.b2_atom.specs.declared.rows.TheConstants as row
use Rattle.b2_access.specs.Partition.{terminal_address, without_frames}
use Rattle.b2_access.specs.declared.accesses.Access.{Access}
use Rattle.b2_access.specs.declared.accesses.Access.TheVariants as access
use Rattle.b2_access.specs.declared.accesses.Answer.{Answer}
use Rattle.b2_access.specs.declared.planned.Outcome.TheVariants as outcome
use Rattle.b2_access.specs.declared.private.Private.{Private}
use Rattle.b2_rows.specs.LineNumbers.{named_lines}
use Rattle.b2_access.specs.Steering.{Control, Steered, control_of, unsteered}
use Rattle.b2_access.specs.Views.{ClearCame, AllCleared, LinesErased, TextLocked, ClearLater, clear_came}
use Rattle.b2_access.specs.Working.{work_of}
use Rattle.b2_stmt.specs.Parts.{asks_to_declare, asks_to_find, declared_by, part_came, part_ends, selected_by}

-- the lines that are named go: up to the last one of the text, where no second one is named; and texts that were entered are given back
abbrev pub erases_lines : ℕ → ℕ × Option ℕ → Access
erases_lines homes lines = access.Erase lines.0 (unwrap_or lines.1 9999) homes

abbrev pub asks_to_erase : ℕ → Trees → Access
asks_to_erase homes (Put word (Put letter lines)) = erases_lines homes (named_lines lines)
asks_to_erase homes t = access.Erase 0 9999 homes

-- whether a statement may ask for an access by its row, and the access that it asks for, where a name is declared or none, and where the
-- texts of some partitions were entered, which are given back with the lines
abbrev pub asks_access : ℕ → Bool
asks_access r = r == row.CLEAR || r == row.CLEAR_P || r == row.DEFFN || r == row.SELECT_PART

abbrev pub asked_access : ℕ → Trees → Option (List ℕ) → ℕ → Option Access
asked_access r t declared homes =
    if r == row.CLEAR then Some (access.ClearAll declared homes)
    else (if r == row.CLEAR_P then Some (asks_to_erase homes t)
    else (if r == row.DEFFN then asks_to_declare declared (declared_by t)
    else (if r == row.SELECT_PART then asks_to_find (selected_by t)
    else None)))

-- all is cleared: the text and the `@` variables by the access, and then the variables and the frames; the terminal and the platter with
-- which the partition started are selected again, no partition is selected, and no name is declared; the devices that it has taken stay so
abbrev pub cleared : Private → Private
cleared me = record (without_frames me) { vars = record me.vars { table = map.empty }; print = terminal_address; disk = me.boot_disk; global = None; declared = None }

-- it is shown to be ready
abbrev pub ready_after : Private → Control
ready_after me = record (control_of me) { work = record (work_of me) { shows = Some (codes "READY" ++ byte.newline ∷ []) } }

-- and no data file is open
abbrev pub all_closed : Control → Control
all_closed c = record c { closes = true }

-- how a statement finishes that clears text: the frames go with the lines; A08 where another stands inside it; else the step is repeated
abbrev pub clearing_ends : ClearCame → Private → Steered
clearing_ends AllCleared me = record { work = all_closed (ready_after (cleared me)); outcome = outcome.Ready }
clearing_ends LinesErased me = record { work = control_of (without_frames me); outcome = outcome.Ready }
clearing_ends TextLocked me = unsteered me (outcome.Failed A08_TEXT_BORROWED)
clearing_ends ClearLater me = unsteered me outcome.Repeat

abbrev pub edit_finishes : Access → Answer → Private → Steered
edit_finishes x a me = part_ends (part_came x a) (clearing_ends (clear_came x a) me) me
