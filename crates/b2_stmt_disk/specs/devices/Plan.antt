-- What a statement plans, by the unit at the place of a partition, and how it finishes.
use Rattle.std.specs.Prelude.{ℕ, ◌==◌, ◌||◌, Bool, false, List, if◌then◌else◌}
use Rattle.b2_base.specs.declared.codes.TheConstants.{S27_LEFT_OUT}
use Rattle.b2_atom.specs.declared.rows.TheConstants as row
use Rattle.b2_access.specs.Dispatch.{Here, dispatch}
use Rattle.b2_access.specs.Lending.{SeenLent}
use Rattle.b2_access.specs.Placed.{Statement}
use Rattle.b2_access.specs.Planning.{Finishing, Planning}
use Rattle.b2_access.specs.Views.{devices_freed, taking_came}
use Rattle.b2_access.specs.Working.{Ends, HeldDevices, Plans, Wider, WorkedIn, Working, finishes_in, on_devices, plans_by, stops, work_of}
use Rattle.b2_access.specs.declared.accesses.Access.{Access}
use Rattle.b2_access.specs.declared.accesses.Answer.{Answer}
use Rattle.b2_access.specs.declared.devices.Device.{Device}
use Rattle.b2_access.specs.declared.planned.Outcome.{Outcome}
use Rattle.b2_access.specs.declared.planned.Outcome.TheVariants as outcome
use Rattle.b2_access.specs.declared.planned.Planned.{Planned}
use Rattle.b2_access.specs.declared.planned.Planned.TheVariants as planned
use Rattle.b2_access.specs.declared.private.Private.{Private}
use Rattle.b2_drive.specs.Asking.{asks_or_fails}
use Rattle.b2_stmt_disk.specs.devices.Freeing.{devices_to_free, goes_freed, plans_to_free}
use Rattle.b2_stmt_disk.specs.devices.Held.{held_after}
use Rattle.b2_stmt_disk.specs.devices.Selecting.{device_selected, selected}
use Rattle.b2_stmt_disk.specs.devices.Taking.{asks_to_take, goes_taken, line_if_busy}

-- all may stand in a line of the program, and in an immediate line
abbrev pub is_refused : ℕ → Bool → Bool
is_refused r program = false

-- SELECT PRINT ends at once; the others ask for an access, unless nothing is there to be freed
abbrev pub planned_of : List Device → Statement → Private → Planned
planned_of devices u me =
    if u.row == row.OPEN then asks_or_fails (asks_to_take devices me.part u.tree)
    else (if u.row == row.CLOSE then plans_to_free devices me (devices_to_free u.tree)
    else planned.Done (outcome.Failed S27_LEFT_OUT))

abbrev pub dispatch_of : List Device → Statement → Private → Working
dispatch_of devices u me =
    if u.row == row.SELECT_PRINT then Ends (selected (device_selected devices me.part u.tree) me)
    else Plans (planned_of devices u me)

abbrev pub does : List Device → Private → SeenLent → Statement → Here → Working
does devices me s u h = dispatch_of devices u me

-- what the statement at a partition's place plans, over the devices that there are
abbrev pub works : List Device → Private → SeenLent → Working
works devices me s = dispatch is_refused stops (does devices me s) me.place me s

abbrev pub plan : List Device → Private → SeenLent → Planning
plan devices me s = plans_by (works devices) me s

-- where the step goes on once a statement was answered; elsewhere it is repeated
abbrev pub goes : Access → Answer → SeenLent → Statement → Here → Outcome
goes x a s u h =
    if u.row == row.OPEN then goes_taken (taking_came x a) (line_if_busy u.tree) s.home.lines h.place
    else (if u.row == row.CLOSE then goes_freed (devices_freed x a)
    else outcome.Repeat)

abbrev pub repeats : Outcome → Outcome
repeats o = outcome.Repeat

-- how the statement at a partition's place finishes: what is held then is by the access and its answer alone, and where the step goes on
-- by the statement too
abbrev pub ends : Access → Answer → Private → SeenLent → WorkedIn (Wider HeldDevices)
ends x a me s = record { work = record { work = work_of me; more = held_after x a me.held }; outcome = dispatch is_refused repeats (goes x a s) me.place me s }

abbrev pub finish : Access → Answer → Private → SeenLent → Finishing
finish x a me s = finishes_in on_devices ends x a me s

-- the rows that this crate builds
abbrev pub is_built : ℕ → Bool
is_built r = r == row.OPEN || r == row.CLOSE || r == row.SELECT_PRINT
