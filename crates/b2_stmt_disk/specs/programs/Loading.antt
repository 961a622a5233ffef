-- LOAD: a program on a disk is loaded into the text, in place of its lines or among them.
use Rattle.std.specs.Prelude.{ℕ, ◌==◌, ◌||◌, Bool, true, false, List, Option, Some, None, Result, Ok, Err, if◌then◌else◌}
use Rattle.b2_base.specs.declared.codes.TheConstants.{A08_TEXT_BORROWED, S18_ALPHA}
use Rattle.b2_atom.specs.Tree.{Trees}
use Rattle.b2_atom.specs.Tree.Trees.{Put, In}
use Rattle.b2_expr.specs.Answers.{◌>>=◌}
use Rattle.b2_expr.specs.Scope.{Context}
use Rattle.b2_text.specs.Program.{Lines, number_after}
use Rattle.b2_vars.specs.Calls.{common_only}
use Rattle.b2_access.specs.Partition.{without_frames}
use Rattle.b2_access.specs.Steering.{Steered, control_of, unsteered}
use Rattle.b2_access.specs.Views.{ProgramCame, ProgramLoaded, ProgramLocked, ProgramRefused, ProgramLater}
use Rattle.b2_access.specs.declared.accesses.Access.{Access}
use Rattle.b2_access.specs.declared.accesses.Access.TheVariants as access
use Rattle.b2_access.specs.declared.planned.Outcome.TheVariants as outcome
use Rattle.b2_access.specs.declared.private.Private.{Private}
use Rattle.b2_drive.specs.Drives.{DrivesSeen, drive_used}
use Rattle.b2_drive.specs.FileNames.{name_given}

-- The drive first, and then the name. It replaces the lines where it is typed with RUN, and where it stands in a line of the program.
-- So does the name go that is declared; and the texts that calls entered are given back either way.
abbrev pub given_up : Bool → Option (List ℕ) → Option (List ℕ)
given_up replace declared = if replace then declared else None

abbrev pub asks_for : DrivesSeen → Context → Option (List ℕ) → ℕ → Bool → Trees → Trees → Result Access ℕ
asks_for d e declared homes replace drive name = drive_used d drive >>= (λ addr. name_given e name >>= (λ name. Ok (access.LoadProgram addr name replace (given_up replace declared) homes)))

abbrev pub asks_to_load : DrivesSeen → Context → Option (List ℕ) → ℕ → Bool → Trees → Result Access ℕ
asks_to_load d e declared homes program (Put word (In k run (In n drive (In m name end)))) = asks_for d e declared homes (k == 1 || program) drive name
asks_to_load d e declared homes program t = Err S18_ALPHA

-- Whether an access loads a program, and then whether that replaces the lines. The text has changed once it is done, so this isn't
-- looked up in the statement again.
abbrev pub replacing : Access → Option Bool
replacing (access.LoadProgram addr name replace declared homes) = Some replace
replacing a = None

-- merged: no loop, no call, no argument and no kept place is left, and the line that was typed goes on
abbrev pub merged : Private → Steered
merged me = record { work = control_of (without_frames me); outcome = outcome.Next }

-- replaced: the variables that aren't common and the declared name go besides, and it goes to the first line of the new text, or is ready where there is none
abbrev pub without_old : Private → Private
without_old me = record (without_frames me) { vars = record me.vars { table = common_only me.vars.table }; declared = None }

abbrev pub started : Option ℕ → Private → Steered
started None me = record { work = control_of (without_old me); outcome = outcome.Ready }
started (Some n) me = record { work = control_of (without_old me); outcome = outcome.Jump (record { home = me.part; line = Some n; unit = 0 }) }

abbrev pub loaded : Bool → Lines → Private → Steered
loaded true own me = started (number_after None own) me
loaded false own me = merged me

-- how it finishes; A08 where another stands inside the text
abbrev pub loading_ends : ProgramCame → Bool → Lines → Private → Steered
loading_ends ProgramLoaded replace own me = loaded replace own me
loading_ends ProgramLocked replace own me = unsteered me (outcome.Failed A08_TEXT_BORROWED)
loading_ends (ProgramRefused code) replace own me = unsteered me (outcome.Failed code)
loading_ends ProgramLater replace own me = unsteered me outcome.Repeat
