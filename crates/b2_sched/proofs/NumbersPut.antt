-- What a statement puts back holds numbers, by its form.
use Rattle.std.proofs.Common.{Bool, true, false, if◌then◌else◌, Option, Some, None, IfSome}
use Rattle.b2_vars.specs.Globals.{Globals}
use Rattle.b2_expr.specs.Workspace.{WorkLeft, WorkState, changed_by, work_in}
use Rattle.b2_access.specs.Lending.{SeenLent}
use Rattle.b2_access.specs.Partition.{setting_of}
use Rattle.b2_access.specs.Steering.{Steered}
use Rattle.b2_access.specs.Working.{Ends, Plans, Work, Working, as_planned, globals_after, with_variables, work_of}
use Rattle.b2_access.specs.declared.planned.Outcome.{Outcome}
use Rattle.b2_access.specs.declared.private.Private.{Private}
use Rattle.b2_stmt_file.specs.SavedNumbers.{HoldsNumbers}
use Rattle.b2_sched.specs.Numbers.{ArgsHold, GlobalsHold, PlanningHolds, PrivateHolds}
use Rattle.b2_sched.proofs.NumbersAssigned.{LeftHolds, WorkHolds}

-- what a statement may change
abbrev pub PutHolds : Work → Type 0
PutHolds w = HoldsNumbers w.vars × IfSome w.globals GlobalsHold × ArgsHold w.args

abbrev pub WorkingHolds : Working → Type 0
WorkingHolds (Ends w) = PutHolds w.work
WorkingHolds (Plans p) = Unit {0}

pub work_of_holds : (me : Private) → PrivateHolds me → PutHolds (work_of me)
work_of_holds me h = (h.0, tt, h.1)

pub after_holds : (o : Option Globals) (before : Globals) → IfSome o GlobalsHold → GlobalsHold before → GlobalsHold (globals_after o before)
after_holds None before h k = k
after_holds (Some after) before h k = h

pub planned_holds : (me : Private) (s : SeenLent) (k : Working) → PrivateHolds me → GlobalsHold s.globals → WorkingHolds k → PlanningHolds (as_planned me s k)
planned_holds me s (Ends w) h g k = ((k.0, k.2), after_holds w.work.globals s.globals k.1 g)
planned_holds me s (Plans p) h g k = (h, g)

-- what a statement that steers has left of a partition, where it leaves the `@` variables
abbrev pub SteeredHolds : Steered → Type 0
SteeredHolds e = HoldsNumbers e.work.work.vars × ArgsHold e.work.work.args

-- what a statement works in
pub works_in : (me : Private) (s : SeenLent) → PrivateHolds me → GlobalsHold s.globals → WorkHolds (work_in (setting_of me) s.home me.vars s.globals)
works_in me s h g = (h.0, g)

pub changed_holds : (r : WorkLeft) (goes : Outcome) (w : Work) → LeftHolds r → ArgsHold w.args → PutHolds (with_variables (changed_by r) goes w).work
changed_holds r goes w h args = (h.0, h.1, args)

-- a change of a workspace that leaves numbers
abbrev pub Keeps : (WorkState → WorkLeft) → Type 0
Keeps does = (w : WorkState) → WorkHolds w → LeftHolds (does w)

pub test_keeps : (b : Bool) (x y : WorkLeft) → LeftHolds x → LeftHolds y → LeftHolds (if b then x else y)
test_keeps true x y h k = h
test_keeps false x y h k = k
