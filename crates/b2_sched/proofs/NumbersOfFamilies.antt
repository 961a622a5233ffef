-- The statements of each family leave numbers, as they plan and as they finish; so those of the language do.
use Rattle.std.specs.Prelude.{List}
use Rattle.b2_access.specs.Lending.{SeenLent}
use Rattle.b2_access.specs.declared.accesses.Access.{Access}
use Rattle.b2_access.specs.declared.accesses.Answer.{Answer}
use Rattle.b2_access.specs.declared.devices.Device.{Device}
use Rattle.b2_access.specs.declared.private.Private.{Private}
use Rattle.b2_sched.proofs.NumbersOfArrays.{arrays_finish_numbers, arrays_plan_numbers}
use Rattle.b2_sched.proofs.NumbersOfControl.{control_finish_numbers, control_plan_numbers}
use Rattle.b2_sched.proofs.NumbersOfDevices.{devices_finish_numbers, devices_plan_numbers}
use Rattle.b2_sched.proofs.NumbersOfDisks.{disks_finish_numbers, disks_plan_numbers}
use Rattle.b2_sched.proofs.NumbersOfFields.{fields_finish_numbers, fields_plan_numbers}
use Rattle.b2_sched.proofs.NumbersOfFiles.{files_finish_numbers, files_plan_numbers}
use Rattle.b2_sched.proofs.NumbersOfPrograms.{programs_finish_numbers, programs_plan_numbers}
use Rattle.b2_sched.proofs.NumbersOfSteps.{KeepNumbers}
use Rattle.b2_sched.proofs.NumbersOfTerminal.{printing_finish_numbers, terminal_finish_numbers, terminal_plan_numbers}
use Rattle.b2_sched.proofs.NumbersOfVariables.{variables_finish_numbers, variables_plan_numbers}
use Rattle.b2_sched.specs.Choice.{basic, family_of, finish_by, plan_by}
use Rattle.b2_sched.specs.Numbers.{AnswerHolds, FinishingHolds, GlobalsHold, PlanningHolds, PrivateHolds}
use Rattle.b2_sched.specs.declared.choice.Family.{Family}
use Rattle.b2_sched.specs.declared.choice.Family.TheVariants as family

plan_numbers : (devices : List Device) (f : Family) (me : Private) (s : SeenLent) → PrivateHolds me → GlobalsHold s.globals → PlanningHolds (plan_by devices f me s)
plan_numbers devices family.Variables me s h g = variables_plan_numbers me s h g
plan_numbers devices family.Control me s h g = control_plan_numbers me s h g
plan_numbers devices family.Printing me s h g = terminal_plan_numbers devices me s h g
plan_numbers devices family.Terminal me s h g = terminal_plan_numbers devices me s h g
plan_numbers devices family.Arrays me s h g = arrays_plan_numbers me s h g
plan_numbers devices family.Packed me s h g = fields_plan_numbers me s h g
plan_numbers devices family.Files me s h g = files_plan_numbers devices me s h g
plan_numbers devices family.Programs me s h g = programs_plan_numbers devices me s h g
plan_numbers devices family.Devices me s h g = devices_plan_numbers devices me s h g
plan_numbers devices family.Disks me s h g = disks_plan_numbers devices me s h g

finish_numbers : (f : Family) (x : Access) (a : Answer) (me : Private) (s : SeenLent) → AnswerHolds a → PrivateHolds me → GlobalsHold s.globals → FinishingHolds (finish_by f x a me s)
finish_numbers family.Variables x a me s told h g = variables_finish_numbers x a me s h g
finish_numbers family.Control x a me s told h g = control_finish_numbers x a me s h g
finish_numbers family.Printing x a me s told h g = printing_finish_numbers x a me s h g
finish_numbers family.Terminal x a me s told h g = terminal_finish_numbers x a me s h g
finish_numbers family.Arrays x a me s told h g = arrays_finish_numbers x a me s h g
finish_numbers family.Packed x a me s told h g = fields_finish_numbers x a me s h g
finish_numbers family.Files x a me s told h g = files_finish_numbers x a me s told h g
finish_numbers family.Programs x a me s told h g = programs_finish_numbers x a me s h g
finish_numbers family.Devices x a me s told h g = devices_finish_numbers x a me s h g
finish_numbers family.Disks x a me s told h g = disks_finish_numbers x a me s h g

pub basic_keeps_numbers : (devices : List Device) → KeepNumbers (basic devices)
basic_keeps_numbers devices = record { as_planned = λ r. plan_numbers devices (family_of r); as_finished = λ r. finish_numbers (family_of r) }
