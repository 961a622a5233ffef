-- Statements on programs on disks leave numbers: LOAD leaves the variables, or the common ones alone.
use Rattle.std.proofs.Common.{ℕ, Bool, true, false, List, Option, Some, None}
use Rattle.b2_text.specs.Program.{Lines, number_after}
use Rattle.b2_access.specs.Lending.{SeenLent}
use Rattle.b2_access.specs.Views.{ProgramCame, ProgramLater, ProgramLoaded, ProgramLocked, ProgramRefused, program_came}
use Rattle.b2_access.specs.Working.{stops}
use Rattle.b2_access.specs.declared.accesses.Access.{Access}
use Rattle.b2_access.specs.declared.accesses.Answer.{Answer}
use Rattle.b2_access.specs.declared.devices.Device.{Device}
use Rattle.b2_access.specs.declared.private.Private.{Private}
use Rattle.b2_access.proofs.Dispatch.{each_dispatch}
use Rattle.b2_stmt_disk.specs.programs.Loading.{loaded, loading_ends, replacing, started}
use Rattle.b2_stmt_disk.specs.programs.Plan.{does, ended_by, finish, is_refused, plan, works}
use Rattle.b2_sched.specs.Numbers.{FinishingHolds, GlobalsHold, PlanningHolds, PrivateHolds}
use Rattle.b2_sched.proofs.NumbersAssigned.{common_holds}
use Rattle.b2_sched.proofs.NumbersPut.{SteeredHolds, WorkingHolds, planned_holds}

pub programs_plan_numbers : (devices : List Device) (me : Private) (s : SeenLent) → PrivateHolds me → GlobalsHold s.globals → PlanningHolds (plan devices me s)
programs_plan_numbers devices me s h g = planned_holds me s (works devices me s) h g (each_dispatch is_refused stops (does devices me s) me s WorkingHolds tt tt (λ p is u. tt))

-- how they finish
started_holds : (n : Option ℕ) (me : Private) → PrivateHolds me → SteeredHolds (started n me)
started_holds None me h = (common_holds me.vars.table h.0, tt)
started_holds (Some n) me h = (common_holds me.vars.table h.0, tt)

loaded_holds : (replace : Bool) (own : Lines) (me : Private) → PrivateHolds me → SteeredHolds (loaded replace own me)
loaded_holds true own me h = started_holds (number_after None own) me h
loaded_holds false own me h = (h.0, tt)

loading_holds : (k : ProgramCame) (replace : Bool) (own : Lines) (me : Private) → PrivateHolds me → SteeredHolds (loading_ends k replace own me)
loading_holds ProgramLoaded replace own me h = loaded_holds replace own me h
loading_holds ProgramLocked replace own me h = h
loading_holds (ProgramRefused code) replace own me h = h
loading_holds ProgramLater replace own me h = h

ended_holds : (replaces : Option Bool) (x : Access) (a : Answer) (own : Lines) (me : Private) → PrivateHolds me → SteeredHolds (ended_by replaces x a own me)
ended_holds (Some replace) x a own me h = loading_holds (program_came x a) replace own me h
ended_holds None x a own me h = h

pub programs_finish_numbers : (x : Access) (a : Answer) (me : Private) (s : SeenLent) → PrivateHolds me → GlobalsHold s.globals → FinishingHolds (finish x a me s)
programs_finish_numbers x a me s h g = (ended_holds (replacing x) x a s.own.lines me h, g)
