-- A turn of a partition over the store and the devices that there are, and its steps: who took each, what it touched and what it wrote.
use Rattle.std.specs.Prelude.{ℕ, zero, suc, List, [], ◌∷◌, Option, Some, None, if◌then◌else◌}
use Rattle.b2_access.specs.declared.devices.Device.{Device}
use Rattle.b2_access.specs.declared.private.Private.{Private}
use Rattle.b2_access.specs.Loans.{lends}
use Rattle.b2_access.specs.Serving.{itself}
use Rattle.b2_store.specs.DiskWork.{serves}
use Rattle.b2_access.specs.Store.{StoreState}
use Rattle.b2_audit.specs.Steps.{Step}
use Rattle.b2_machine.specs.Step.{StepEnd, step}
use Rattle.b2_machine.specs.Touched.{step_touched, step_written}
use Rattle.b2_machine.specs.Turn.{TurnEnd, passes_none, passes_turn, turn, unless_ended}
use Rattle.b2_sched.specs.Choice.{basic}

-- a turn
abbrev pub turn_of : List Device → ℕ → Private → StoreState → TurnEnd StoreState
turn_of devices quota me s = turn (basic devices) itself serves lends quota me s

-- a step, and how it is told
abbrev pub step_of : List Device → Private → StoreState → StepEnd StoreState
step_of devices me s = step (basic devices) itself serves lends me s

abbrev pub step_noted : List Device → ℕ → Private → StoreState → Step
step_noted devices who me s = record { who = who; touched = step_touched (basic devices) itself serves lends me s; written = step_written (basic devices) itself serves lends me s }

-- at most so many steps, up to the one that ends the turn
unfoldable pub steps_from : List Device → ℕ → ℕ → Private → StoreState → List Step
steps_from devices who zero me s = []
steps_from devices who (suc n) me s =
    let x = step_of devices me s in
    step_noted devices who me s ∷ unless_ended x.end.why (λ w. []) (steps_from devices who n x.me x.after)

-- THE STEPS OF A TURN: none where it is passed
abbrev pub steps_in_turn : List Device → ℕ → ℕ → Private → StoreState → List Step
steps_in_turn devices who n me s = if passes_turn me then [] else steps_from devices who n (passes_none me) s

-- a partition that is absent takes none
abbrev pub noted_by : List Device → ℕ → ℕ → Option Private → StoreState → List Step
noted_by devices who n None s = []
noted_by devices who n (Some me) s = steps_in_turn devices who n me s
