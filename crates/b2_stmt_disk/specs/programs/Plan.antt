-- What a statement plans, by the unit at the place of a partition, and how it finishes.
use Rattle.std.specs.Prelude.{ℕ, ◌==◌, ◌||◌, Bool, false, List, Option, Some, None, is_some, Result, Err, if◌then◌else◌}
use Rattle.b2_base.specs.declared.codes.TheConstants.{S27_LEFT_OUT}
use Rattle.b2_atom.specs.Tree.{Trees}
use Rattle.b2_atom.specs.declared.rows.TheConstants as row
use Rattle.b2_expr.specs.Scope.{Context}
use Rattle.b2_expr.specs.Value.{context_of}
use Rattle.b2_expr.specs.Workspace.{work_in}
use Rattle.b2_text.specs.Program.{Lines}
use Rattle.b2_access.specs.Borrowers.{homes_entered}
use Rattle.b2_access.specs.Dispatch.{Here, dispatch}
use Rattle.b2_access.specs.Lending.{SeenLent}
use Rattle.b2_access.specs.Partition.{setting_of}
use Rattle.b2_access.specs.Placed.{Statement}
use Rattle.b2_access.specs.Planning.{Finishing, Planning, finished}
use Rattle.b2_access.specs.Steering.{Steered, steered, unsteered}
use Rattle.b2_access.specs.Views.{change_came, program_came}
use Rattle.b2_access.specs.Working.{Plans, Working, plans_by, stops}
use Rattle.b2_access.specs.declared.accesses.Access.{Access}
use Rattle.b2_access.specs.declared.accesses.Answer.{Answer}
use Rattle.b2_access.specs.declared.devices.Device.{Device}
use Rattle.b2_access.specs.declared.private.Private.{Private}
use Rattle.b2_drive.specs.Asking.{asks_or_fails, change_ends}
use Rattle.b2_drive.specs.Drives.{DrivesSeen, drives_by, platters_for}
use Rattle.b2_stmt_disk.specs.programs.Loading.{asks_to_load, loading_ends, replacing}
use Rattle.b2_stmt_disk.specs.programs.Saving.{asks_to_save}

-- each may stand in a line of the program, and in an immediate line
abbrev pub is_refused : ℕ → Bool → Bool
is_refused r program = false

-- what a statement asks for, or the first code from the left
abbrev pub asked_of : DrivesSeen → Context → Option (List ℕ) → ℕ → Bool → ℕ → Trees → Result Access ℕ
asked_of d e declared homes program r t =
    if r == row.SAVE then asks_to_save d e t
    else (if r == row.LOAD then asks_to_load d e declared homes program t
    else Err S27_LEFT_OUT)

abbrev pub does_by : (List ℕ → Bool) → Private → SeenLent → Statement → Here → Working
does_by listed me s u h =
    Plans (asks_or_fails (asked_of (drives_by listed me) (context_of (work_in (setting_of me) s.home me.vars s.globals)) me.declared (homes_entered me.stack) (is_some h.place.line) u.row u.tree))

-- what the statement at a partition's place plans, by the platters that are listed for it
abbrev pub works_by : (List ℕ → Bool) → Private → SeenLent → Working
works_by listed me s = dispatch is_refused stops (does_by listed me s) me.place me s

abbrev pub plan_by : (List ℕ → Bool) → Private → SeenLent → Planning
plan_by listed me s = plans_by (works_by listed) me s

-- and so over the devices that there are
abbrev pub does : List Device → Private → SeenLent → Statement → Here → Working
does devices me s u h = does_by (platters_for me.part devices) me s u h

abbrev pub works : List Device → Private → SeenLent → Working
works devices me s = works_by (platters_for me.part devices) me s

abbrev pub plan : List Device → Private → SeenLent → Planning
plan devices me s = plan_by (platters_for me.part devices) me s

-- how it finishes, by the access that it asked for and its answer, over the own text as it then is
abbrev pub ended_by : Option Bool → Access → Answer → Lines → Private → Steered
ended_by (Some replace) x a own me = loading_ends (program_came x a) replace own me
ended_by None x a own me = unsteered me (change_ends (change_came x a))

abbrev pub ends : Access → Answer → Lines → Private → Steered
ends x a own me = ended_by (replacing x) x a own me

abbrev pub finish : Access → Answer → Private → SeenLent → Finishing
finish x a me s = finished s (steered me (ends x a s.own.lines me))

-- the rows that this crate builds
abbrev pub is_built : ℕ → Bool
is_built r = r == row.SAVE || r == row.LOAD
