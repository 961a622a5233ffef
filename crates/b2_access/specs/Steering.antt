-- Statements of control. WHAT SUCH A STATEMENT MAY CHANGE of a partition is what any other may, and the frames and the place that is kept:
-- a record of its own, which is put back in one place. So by its type it leaves the partition itself and its terminal, where it stands,
-- and the devices that it holds; and the files that it has open stay so, or all are closed. The name that it has declared is changed here
-- alone, and so is how many turns it passes.
use Rattle.std.specs.Prelude.{ℕ, Bool, true, false, List, Option, None}
use Rattle.b2_base.specs.declared.files.Slot.{Slot}
use Rattle.b2_flow.specs.declared.frame.Frame.{Frame}
use Rattle.b2_flow.specs.declared.frame.Place.{Place}
use Rattle.b2_access.specs.Partition.{no_files}
use Rattle.b2_access.specs.Planning.{Ended}
use Rattle.b2_access.specs.Working.{Form, IsLeftItsDevices, IsPutBack, Work, WorkedIn, put_all, work_of}
use Rattle.b2_access.specs.declared.planned.Outcome.{Outcome}
use Rattle.b2_access.specs.declared.private.Private.{Private}

pub record Control : Type 0 where
  pub work : Work
  pub kept : Option Place
  pub stack : List Frame
  pub closes : Bool
  pub declared : Option (List ℕ)
  pub pass : ℕ

abbrev pub control_of : Private → Control
control_of me = record { work = work_of me; kept = me.kept; stack = me.stack; closes = false; declared = me.declared; pass = me.pass }

-- the files that are open then, by whether all were closed
abbrev pub files_left : Bool → List (Option Slot) → List (Option Slot)
files_left false slots = slots
files_left true slots = no_files

abbrev pub put_control : Control → Private → Private
put_control c me = record (put_all c.work (files_left c.closes me.slots) me.held me) { kept = c.kept; stack = c.stack; declared = c.declared; pass = c.pass }

-- its form: it leaves the `@` variables as it finishes
abbrev pub steering : Form Control
steering = record { unchanged = control_of; put = put_control; globals = λ c. None }

-- a statement that has ended, and what it changed
abbrev pub Steered : Type 0
Steered = WorkedIn Control

-- it changed nothing
abbrev pub unsteered : Private → Outcome → Steered
unsteered me o = record { work = control_of me; outcome = o }

-- what it changed is put back
abbrev pub steered : Private → Steered → Ended
steered me c = record { me = put_control c.work me; outcome = c.outcome }

-- it leaves what every statement leaves, and the devices that are held
abbrev pub SteeringIsPutBack : Type 0
SteeringIsPutBack = IsPutBack steering × IsLeftItsDevices steering
