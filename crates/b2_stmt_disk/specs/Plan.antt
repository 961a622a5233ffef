-- What a statement plans, by the unit at the place of a partition, and how it finishes.
use Rattle.std.specs.Prelude.{ℕ, ◌==◌, ◌&&◌, ◌||◌, Bool, List, Result, Err, if◌then◌else◌}
use Rattle.b2_base.specs.declared.codes.TheConstants.{S27_LEFT_OUT}
use Rattle.b2_atom.specs.Tree.{Trees}
use Rattle.b2_atom.specs.declared.rows.TheConstants as row
use Rattle.b2_expr.specs.Scope.{Context}
use Rattle.b2_expr.specs.Value.{context_of}
use Rattle.b2_expr.specs.Workspace.{work_in}
use Rattle.b2_access.specs.Dispatch.{Here, dispatch}
use Rattle.b2_access.specs.Lending.{SeenLent}
use Rattle.b2_access.specs.Partition.{setting_of}
use Rattle.b2_access.specs.Placed.{Statement}
use Rattle.b2_access.specs.Planning.{Finishing, Planning}
use Rattle.b2_access.specs.Views.{change_came, limits_told, listing_told}
use Rattle.b2_access.specs.Working.{Ends, Plans, Worked, Working, finishes_by, leaves, plans_by, stops}
use Rattle.b2_access.specs.declared.accesses.Access.{Access}
use Rattle.b2_access.specs.declared.accesses.Answer.{Answer}
use Rattle.b2_access.specs.declared.devices.Device.{Device}
use Rattle.b2_access.specs.declared.planned.Outcome.{Outcome}
use Rattle.b2_access.specs.declared.planned.Outcome.TheVariants as outcome
use Rattle.b2_access.specs.declared.private.Private.{Private}
use Rattle.b2_drive.specs.Asking.{asks_or_fails, change_ends}
use Rattle.b2_drive.specs.Drives.{DrivesSeen, drives_by, platters_for, selects}
use Rattle.b2_stmt_disk.specs.Selecting.{selected}
use Rattle.b2_stmt_disk.specs.Limits.{asks_limits, limits_end}
use Rattle.b2_stmt_disk.specs.Listing.{asks_to_list, listing_ends}
use Rattle.b2_stmt_disk.specs.Moving.{asks_to_move}
use Rattle.b2_stmt_disk.specs.Scratching.{asks_to_format, asks_to_scratch}

-- LIST DC stands in immediate lines alone
abbrev pub is_refused : ℕ → Bool → Bool
is_refused r program = r == row.LIST_DISK && program

-- what a statement asks for, or the first code from the left
abbrev pub asked_of : DrivesSeen → Context → ℕ → Trees → Result Access ℕ
asked_of d e r t =
    if r == row.LIMITS then asks_limits d e t
    else (if r == row.SCRATCH then asks_to_scratch d e t
    else (if r == row.SCRATCH_DISK then asks_to_format d e t
    else (if r == row.LIST_DISK then asks_to_list d t
    else (if r == row.MOVE then asks_to_move d e t
    else Err S27_LEFT_OUT))))

-- SELECT DISK ends at once; the others ask for an access
abbrev pub dispatch_by : (List ℕ → Bool) → Statement → Private → SeenLent → Working
dispatch_by listed u me s =
    if u.row == row.SELECT_DISK then Ends (selected (selects (drives_by listed me) u.tree) me)
    else Plans (asks_or_fails (asked_of (drives_by listed me) (context_of (work_in (setting_of me) s.home me.vars s.globals)) u.row u.tree))

abbrev pub does_by : (List ℕ → Bool) → Private → SeenLent → Statement → Here → Working
does_by listed me s u h = dispatch_by listed u me s

-- what the statement at a partition's place plans, by the platters that are listed for it
abbrev pub works_by : (List ℕ → Bool) → Private → SeenLent → Working
works_by listed me s = dispatch is_refused stops (does_by listed me s) me.place me s

abbrev pub plan_by : (List ℕ → Bool) → Private → SeenLent → Planning
plan_by listed me s = plans_by (works_by listed) me s

-- and so over the devices that there are
abbrev pub dispatch_of : List Device → Statement → Private → SeenLent → Working
dispatch_of devices u me s = dispatch_by (platters_for me.part devices) u me s

abbrev pub does : List Device → Private → SeenLent → Statement → Here → Working
does devices me s u h = dispatch_of devices u me s

abbrev pub works : List Device → Private → SeenLent → Working
works devices me s = works_by (platters_for me.part devices) me s

abbrev pub plan : List Device → Private → SeenLent → Planning
plan devices me s = plan_by (platters_for me.part devices) me s

-- how a statement finishes by the answer to the access that it asked for, where it may stand
abbrev pub ended_of : Statement → Access → Answer → Private → SeenLent → Worked
ended_of u x a me s =
    if u.row == row.LIMITS then limits_end (limits_told x a) u.tree me s
    else (if u.row == row.SCRATCH || u.row == row.SCRATCH_DISK || u.row == row.MOVE then leaves me (change_ends (change_came x a))
    else (if u.row == row.LIST_DISK then listing_ends (listing_told x a) me
    else leaves me outcome.Repeat))

abbrev pub finishes : Access → Answer → Private → SeenLent → Statement → Here → Worked
finishes x a me s u h = ended_of u x a me s

-- elsewhere the step is repeated
abbrev pub repeats : Private → Outcome → Worked
repeats me o = leaves me outcome.Repeat

-- how the statement at a partition's place finishes
abbrev pub ends : Access → Answer → Private → SeenLent → Worked
ends x a me s = dispatch is_refused (repeats me) (finishes x a me s) me.place me s

abbrev pub finish : Access → Answer → Private → SeenLent → Finishing
finish x a me s = finishes_by ends x a me s

-- the rows that this crate builds
abbrev pub is_built : ℕ → Bool
is_built r = r == row.LIMITS || r == row.SCRATCH || r == row.SCRATCH_DISK || r == row.LIST_DISK || r == row.MOVE || r == row.SELECT_DISK
