-- Statements that take devices and free them leave the variables, and so numbers.
use Rattle.std.proofs.Common.{ℕ, ◌==◌, List, Result, Ok, Err}
use Rattle.b2_atom.specs.declared.rows.TheConstants as row
use Rattle.b2_access.specs.Lending.{SeenLent}
use Rattle.b2_access.specs.Working.{stops}
use Rattle.b2_access.specs.declared.accesses.Access.{Access}
use Rattle.b2_access.specs.declared.accesses.Answer.{Answer}
use Rattle.b2_access.specs.declared.devices.Device.{Device}
use Rattle.b2_access.specs.declared.private.Private.{Private}
use Rattle.b2_access.proofs.Choice.{either}
use Rattle.b2_access.proofs.Dispatch.{each_dispatch}
use Rattle.b2_stmt_disk.specs.devices.Plan.{does, finish, is_refused, plan, works}
use Rattle.b2_stmt_disk.specs.devices.Selecting.{device_selected, selected}
use Rattle.b2_sched.specs.Numbers.{FinishingHolds, GlobalsHold, PlanningHolds, PrivateHolds}
use Rattle.b2_sched.proofs.NumbersFinished.{WorkedHolds}
use Rattle.b2_sched.proofs.NumbersPut.{WorkingHolds, planned_holds, work_of_holds}

selected_holds : (r : Result (List ℕ) ℕ) (me : Private) → PrivateHolds me → WorkedHolds (selected r me)
selected_holds (Ok addr) me h = work_of_holds me h
selected_holds (Err code) me h = work_of_holds me h

pub devices_plan_numbers : (devices : List Device) (me : Private) (s : SeenLent) → PrivateHolds me → GlobalsHold s.globals → PlanningHolds (plan devices me s)
devices_plan_numbers devices me s h g =
    planned_holds me s (works devices me s) h g
    (each_dispatch is_refused stops (does devices me s) me s WorkingHolds tt tt
    (λ p is u. either WorkingHolds (u.row == row.SELECT_PRINT) _ _ (selected_holds (device_selected devices me.part u.tree) me h) tt))

pub devices_finish_numbers : (x : Access) (a : Answer) (me : Private) (s : SeenLent) → PrivateHolds me → GlobalsHold s.globals → FinishingHolds (finish x a me s)
devices_finish_numbers x a me s h g = (h, g)
