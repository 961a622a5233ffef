-- What a statement plans, by the unit at the place of a partition, and how it finishes.
use Rattle.std.specs.Prelude.{ℕ, ◌==◌, ◌||◌, Bool, false, List, Option, Some, None, Result, Err, if◌then◌else◌}
use Rattle.b2_base.specs.declared.codes.TheConstants.{S27_LEFT_OUT}
use Rattle.b2_base.specs.declared.files.Slot.{Slot}
use Rattle.b2_atom.specs.Tree.{Trees}
use Rattle.b2_atom.specs.declared.rows.TheConstants as row
use Rattle.b2_expr.specs.Scope.{Context}
use Rattle.b2_expr.specs.Value.{context_of}
use Rattle.b2_expr.specs.Workspace.{work_in}
use Rattle.b2_text.specs.Program.{Lines}
use Rattle.b2_access.specs.Dispatch.{Here, dispatch}
use Rattle.b2_access.specs.Lending.{SeenLent}
use Rattle.b2_access.specs.Partition.{setting_of}
use Rattle.b2_access.specs.Placed.{Statement}
use Rattle.b2_access.specs.Planning.{Finishing, Planning}
use Rattle.b2_access.specs.Views.{place_came}
use Rattle.b2_access.specs.Working.{FileWorked, Plans, Working, finishes_in, leaves_in, on_files, plans_by, stops}
use Rattle.b2_access.specs.declared.accesses.Access.{Access}
use Rattle.b2_access.specs.declared.accesses.Answer.{Answer}
use Rattle.b2_access.specs.declared.devices.Device.{Device}
use Rattle.b2_access.specs.declared.planned.Outcome.{Outcome}
use Rattle.b2_access.specs.declared.planned.Outcome.TheVariants as outcome
use Rattle.b2_access.specs.declared.private.Private.{Private}
use Rattle.b2_drive.specs.Asking.{asks_or_fails}
use Rattle.b2_drive.specs.Drives.{DrivesSeen, drives_by, platters_for}
use Rattle.b2_stmt_file.specs.FileAnswers.{by_place, file_ends}
use Rattle.b2_stmt_file.specs.Ending.{if_end}
use Rattle.b2_stmt_file.specs.Loading.{asks_to_load, loading_ends}
use Rattle.b2_stmt_file.specs.Saving.{asks_to_save, saving_ends}
use Rattle.b2_stmt_file.specs.Skipping.{asks_to_skip, back, forward, slot_skipped}

-- they stand in all lines
abbrev pub is_refused : ℕ → Bool → Bool
is_refused r program = false

-- what a statement asks for, or the first code from the left
abbrev pub asked_of : DrivesSeen → List (Option Slot) → Context → ℕ → Trees → Result Access ℕ
asked_of d slots e r t =
    if r == row.DATASAVE then asks_to_save d slots e t
    else (if r == row.DATALOAD then asks_to_load d slots e t
    else (if r == row.DSKIP then asks_to_skip forward d slots e t
    else (if r == row.DBACKSPACE then asks_to_skip back d slots e t
    else Err S27_LEFT_OUT)))

-- what a statement asks for at a place, where one stands there
abbrev pub asks_by : (List ℕ → Bool) → Statement → Private → SeenLent → Working
asks_by listed u me s = Plans (asks_or_fails (asked_of (drives_by listed me) me.slots (context_of (work_in (setting_of me) s.home me.vars s.globals)) u.row u.tree))

abbrev pub asks_for : List Device → Statement → Private → SeenLent → Working
asks_for devices u me s = asks_by (platters_for me.part devices) u me s

abbrev pub asking : List Device → Private → SeenLent → Option Statement → Working
asking devices me s None = stops outcome.Ready
asking devices me s (Some u) = asks_for devices u me s

-- IF END ends at once; the others ask for an access
abbrev pub dispatch_by : (List ℕ → Bool) → Statement → Here → Private → SeenLent → Working
dispatch_by listed u h me s = if u.row == row.IF_END then stops (if_end me.at_end h s.home.lines u.tree) else asks_by listed u me s

abbrev pub dispatch_of : List Device → Statement → Here → Private → SeenLent → Working
dispatch_of devices u h me s = dispatch_by (platters_for me.part devices) u h me s

-- how IF END ends where it stands
abbrev pub ended_there : Bool → Option Statement → Here → Lines → Option Outcome
ended_there at_end None h lines = None
ended_there at_end (Some u) h lines = if u.row == row.IF_END then Some (if_end at_end h lines u.tree) else None

abbrev pub does_by : (List ℕ → Bool) → Private → SeenLent → Statement → Here → Working
does_by listed me s u h = dispatch_by listed u h me s

-- what the statement at a partition's place plans, by the platters that are listed for it
abbrev pub works_by : (List ℕ → Bool) → Private → SeenLent → Working
works_by listed me s = dispatch is_refused stops (does_by listed me s) me.place me s

abbrev pub plan_by : (List ℕ → Bool) → Private → SeenLent → Planning
plan_by listed me s = plans_by (works_by listed) me s

-- and so over the devices that there are
abbrev pub does : List Device → Private → SeenLent → Statement → Here → Working
does devices me s u h = dispatch_of devices u h me s

abbrev pub works : List Device → Private → SeenLent → Working
works devices me s = works_by (platters_for me.part devices) me s

abbrev pub plan : List Device → Private → SeenLent → Planning
plan devices me s = plan_by (platters_for me.part devices) me s

-- how a statement finishes by the answer to the access that it asked for
abbrev pub ended_of : Statement → Access → Answer → Private → SeenLent → FileWorked
ended_of u x a me s =
    if u.row == row.DATASAVE then saving_ends x a u.tree me
    else (if u.row == row.DATALOAD then loading_ends x a u.tree me s
    else (if u.row == row.DSKIP || u.row == row.DBACKSPACE then file_ends (slot_skipped u.tree) (by_place (place_came x a)) me
    else leaves_in on_files me outcome.Repeat))

abbrev pub finishes : Access → Answer → Private → SeenLent → Statement → Here → FileWorked
finishes x a me s u h = ended_of u x a me s

-- elsewhere the step is repeated
abbrev pub repeats : Private → Outcome → FileWorked
repeats me o = leaves_in on_files me outcome.Repeat

-- how the statement at a partition's place finishes
abbrev pub ends : Access → Answer → Private → SeenLent → FileWorked
ends x a me s = dispatch is_refused (repeats me) (finishes x a me s) me.place me s

abbrev pub finish : Access → Answer → Private → SeenLent → Finishing
finish x a me s = finishes_in on_files ends x a me s

-- the rows that this crate builds
abbrev pub is_built : ℕ → Bool
is_built r = r == row.DATASAVE || r == row.DATALOAD || r == row.DSKIP || r == row.DBACKSPACE || r == row.IF_END
