-- Statements on disks leave numbers: what LIMITS tells is rounded to one.
use Rattle.std.proofs.Common.{ℕ, ◌==◌, ◌&&◌, ℤ, List, ◌∷◌, length, Option, Some, None, Result, Ok, Err, lit<}
use Rattle.b2_base.specs.declared.codes.TheConstants.{D82_NO_FILE}
use Rattle.b2_dec.specs.declared.number.Mode.TheVariants.{Cut}
use Rattle.b2_atom.specs.Tree.{Trees}
use Rattle.b2_atom.specs.Tree.Trees.{Put, In}
use Rattle.b2_atom.specs.declared.rows.TheConstants as row
use Rattle.b2_expr.specs.Workspace.{refused, work_in}
use Rattle.b2_receiver.specs.Receiving.{assign_number_at}
use Rattle.b2_access.specs.Disks.{FourNumbers}
use Rattle.b2_access.specs.Lending.{SeenLent}
use Rattle.b2_access.specs.Partition.{setting_of}
use Rattle.b2_access.specs.Views.{limits_told, listing_told}
use Rattle.b2_access.specs.Working.{stops, work_of}
use Rattle.b2_access.specs.declared.accesses.Access.{Access}
use Rattle.b2_access.specs.declared.accesses.Answer.{Answer}
use Rattle.b2_access.specs.declared.devices.Device.{Device}
use Rattle.b2_access.specs.declared.planned.Outcome.TheVariants as outcome
use Rattle.b2_access.specs.declared.private.Private.{Private}
use Rattle.b2_access.proofs.Choice.{either}
use Rattle.b2_access.proofs.Dispatch.{each_dispatch}
use Rattle.b2_drive.specs.Drives.{drives_of, selects}
use Rattle.b2_stmt_disk.specs.Limits.{after_name, gives_each, gives_file, gives_limits, gives_operands, is_absent, limits_end, numbers_of, receivers_in, whole_number}
use Rattle.b2_stmt_disk.specs.Listing.{listing_ends}
use Rattle.b2_stmt_disk.specs.Plan.{does, ends, finish, finishes, is_refused, plan, repeats, works}
use Rattle.b2_stmt_disk.specs.Selecting.{selected}
use Rattle.b2_stmt_disk.proofs.Planned.{each_ended}
use Rattle.b2_stmt_file.proofs.NumbersGiven.{rounded_gives}
use Rattle.b2_sched.specs.Numbers.{FinishingHolds, GlobalsHold, PlanningHolds, PrivateHolds}
use Rattle.b2_sched.proofs.NumbersAssigned.{assign_number_holds, then_holds}
use Rattle.b2_sched.proofs.NumbersFinished.{WorkedHolds, finished_holds}
use Rattle.b2_sched.proofs.NumbersPut.{Keeps, WorkingHolds, changed_holds, planned_holds, test_keeps, work_of_holds, works_in}

-- SELECT DISK and LIST DC leave the variables
selected_holds : (r : Result (List ℕ) ℕ) (me : Private) → PrivateHolds me → WorkedHolds (selected r me)
selected_holds (Ok addr) me h = work_of_holds me h
selected_holds (Err code) me h = work_of_holds me h

listing_holds : (o : Option (List ℕ)) (me : Private) → PrivateHolds me → WorkedHolds (listing_ends o me)
listing_holds None me h = work_of_holds me h
listing_holds (Some bytes) me h = work_of_holds me h

-- the receivers of LIMITS, from left to right
each_holds : (zs : List ℤ) (ts : List Trees) → Keeps (gives_each zs ts)
each_holds (z ∷ zs) (t ∷ ts) w h = then_holds (assign_number_at (whole_number z) t w) (gives_each zs ts) (assign_number_holds (whole_number z) t (rounded_gives Cut z 1 (lit< tt)) w h) (each_holds zs ts)
each_holds zs ts w h = h

file_holds : (n : FourNumbers) (receivers : List Trees) → Keeps (gives_file n receivers)
file_holds n receivers w h = test_keeps (length receivers == 3 && is_absent n) (refused D82_NO_FILE w) (gives_each (numbers_of n) receivers w) h (each_holds (numbers_of n) receivers w h)

operands_hold : (n : FourNumbers) (t : Trees) → Keeps (gives_operands n t)
operands_hold n (In k operands end) w h =
    test_keeps (k == 1) (gives_file n (receivers_in (after_name operands)) w) (gives_each (numbers_of n) (receivers_in operands) w)
    (file_holds n (receivers_in (after_name operands)) w h) (each_holds (numbers_of n) (receivers_in operands) w h)
operands_hold n t w h = h

limits_hold : (n : FourNumbers) (t : Trees) → Keeps (gives_limits n t)
limits_hold n (Put word (In m drive operands)) w h = operands_hold n operands w h
limits_hold n t w h = h

told_holds : (o : Option FourNumbers) (t : Trees) (me : Private) (s : SeenLent) → PrivateHolds me → GlobalsHold s.globals → WorkedHolds (limits_end o t me s)
told_holds None t me s h g = work_of_holds me h
told_holds (Some n) t me s h g = let w = work_in (setting_of me) s.home me.vars s.globals in changed_holds (gives_limits n t w) outcome.Next (work_of me) (limits_hold n t w (works_in me s h g)) h.1

pub disks_plan_numbers : (devices : List Device) (me : Private) (s : SeenLent) → PrivateHolds me → GlobalsHold s.globals → PlanningHolds (plan devices me s)
disks_plan_numbers devices me s h g =
    planned_holds me s (works devices me s) h g
    (each_dispatch is_refused stops (does devices me s) me s WorkingHolds tt tt
    (λ p is u. either WorkingHolds (u.row == row.SELECT_DISK) _ _ (selected_holds (selects (drives_of devices me) u.tree) me h) tt))

pub disks_finish_numbers : (x : Access) (a : Answer) (me : Private) (s : SeenLent) → PrivateHolds me → GlobalsHold s.globals → FinishingHolds (finish x a me s)
disks_finish_numbers x a me s h g =
    finished_holds ends x a me s g
    (each_dispatch is_refused (repeats me) (finishes x a me s) me s WorkedHolds (work_of_holds me h) (work_of_holds me h)
    (λ p is u. each_ended WorkedHolds x a me s (λ t. told_holds (limits_told x a) t me s h g) (work_of_holds me h) (listing_holds (listing_told x a) me h) (work_of_holds me h) u))
