-- The variables of each partition of a world to which a boot and a log lead, and all `@` variables, hold numbers; so each record that a
-- step of a run saves follows those before it.
use Rattle.std.specs.Prelude.{◌≡◌, ℕ, zero, suc, ◌==◌, Bool, true, false, cond, List, [], ◌∷◌, map, Option, Some, None, refl}
use Rattle.std.proofs.Common.{sym, subst}
use Rattle.b2_term.specs.Terminal.{TerminalState}
use Rattle.b2_vars.specs.Tables.{VarsState}
use Rattle.b2_access.specs.Rows.{row_of}
use Rattle.b2_access.specs.Store.{StoreState}
use Rattle.b2_access.specs.declared.devices.Device.{Device}
use Rattle.b2_access.specs.declared.private.Private.{Private}
use Rattle.b2_boot.specs.Boots.{BootState}
use Rattle.b2_boot.specs.Quotas.{quotas_of}
use Rattle.b2_boot.specs.declared.boot.BootPartition.{BootPartition}
use Rattle.b2_boot.specs.declared.log.Event.{Event}
use Rattle.b2_machine.specs.Touched.{asking}
use Rattle.b2_machine.specs.Turn.{passes_none, passes_turn}
use Rattle.b2_store.specs.Changes.{with_terminal}
use Rattle.b2_store.specs.Start.{globals_row}
use Rattle.b2_stmt_file.specs.SavedNumbers.{HoldsNumbers}
use Rattle.b2_sched.proofs.HeldTurns.{unless_passed}
use Rattle.b2_sched.proofs.KeptThroughout.{AreKept, InWorld, booted_own, in_action, in_actions}
use Rattle.b2_sched.proofs.Lasting.{by_actions}
use Rattle.b2_sched.proofs.NumbersAssigned.{empty_holds}
use Rattle.b2_sched.proofs.NumbersOfFamilies.{basic_keeps_numbers}
use Rattle.b2_sched.proofs.NumbersOfSteps.{step_holds}
use Rattle.b2_sched.proofs.NumbersServed.{StoreHolds}
use Rattle.b2_sched.proofs.SavedRecords.{steps_save_records, steps_save_storable}
use Rattle.b2_sched.specs.Choice.{basic}
use Rattle.b2_sched.specs.EachStep.{AtEachStep, EachInAction, EachInTurn, EachOf}
use Rattle.b2_sched.specs.Laws.{all_actions}
use Rattle.b2_sched.specs.Numbers.{PrivateHolds}
use Rattle.b2_sched.specs.Saving.{HoldNumbers, RunsSaveRecords, RunsSaveStorable, SavesRecord, SavesStorable, WorldsHoldNumbers}
use Rattle.b2_sched.specs.Start.{Images, areas_of, booted, private_row}
use Rattle.b2_sched.specs.Turns.{step_of}
use Rattle.b2_sched.specs.World.{WorldState, Action, Turn, does, private_of, ran}

abbrev Holds : Private → StoreState → Type 0
Holds me s = PrivateHolds me × StoreHolds s

both_hold : (me : Private) (s : StoreState) → Holds me s → HoldNumbers me s
both_hold me s h = record { own = h.0.0; globals = h.1 }

-- at the start of a boot there are no variables
globals_by : (area : ℕ) (rest : Option VarsState) (vars : VarsState) → (rest ≡ Some vars → HoldsNumbers vars) → (b : Bool) → cond b (Some (globals_row (0, area, area)).1) rest ≡ Some vars → HoldsNumbers vars
globals_by area rest vars later true is = let same : (globals_row (0, area, area)).1 ≡ vars = cc in subst HoldsNumbers same (empty_holds area)
globals_by area rest vars later false is = later is

booted_globals : (ps : List BootPartition) (p : ℕ) (vars : VarsState) → row_of p (map globals_row (map areas_of ps)) ≡ Some vars → HoldsNumbers vars
booted_globals [] p vars is = cc
booted_globals (x ∷ xs) p vars is = globals_by (areas_of x).2 (row_of p (map globals_row (map areas_of xs))) vars (booted_globals xs p vars) (x.number == p) is

-- a step, and what happens besides
in_step : (devices : List Device) (me : Private) (s : StoreState) → Holds me s → Holds (step_of devices me s).me (step_of devices me s).after
in_step devices me s h = step_holds (basic devices) (basic_keeps_numbers devices) me s h

at_terminal : (o : Option TerminalState) (t : ℕ) (f : TerminalState → TerminalState) (s : StoreState) → StoreHolds s → StoreHolds (with_terminal o t f s)
at_terminal None t f s h = h
at_terminal (Some x) t f s h = h

abbrev OwnHolds : List Device → Private → Type 0
OwnHolds devices me = PrivateHolds me

numbers_kept : AreKept OwnHolds StoreHolds
numbers_kept = record { step = in_step; halt = λ devices me own. own; reset = λ devices me own. own; pass = λ devices me k own. own; terminal = at_terminal }

-- a world
abbrev AllHold : WorldState → Type 0
AllHold w = InWorld OwnHolds StoreHolds numbers_kept w

booted_hold : (b : BootState) (images : Images) → AllHold (booted b images)
booted_hold b images = (booted_own PrivateHolds (λ x. (empty_holds (private_row x).1.vars.area, tt)) b.partitions, booted_globals b.partitions)

pub worlds_hold : WorldsHoldNumbers
worlds_hold b images log p me is =
    let w = booted b images in
    let h = subst AllHold (sym (by_actions log w)) (in_actions OwnHolds StoreHolds numbers_kept (all_actions (quotas_of b) log) w (booted_hold b images)) in
    both_hold me (ran log w).store (h.0 p me is, h.1)

-- what holds where variables hold numbers holds at each step of a run
module _ (P : List Device → Private → StoreState → Type 0) (so : (devices : List Device) (me : Private) (s : StoreState) → HoldNumbers me s → P devices me s) where
  each_in_turn : (devices : List Device) (n : ℕ) (me : Private) (s : StoreState) → Holds me s → EachInTurn P devices n me s
  each_in_turn devices zero me s h = tt
  each_in_turn devices (suc n) me s h = (so devices me s (both_hold me s h), λ on. each_in_turn devices n (step_of devices me s).me (step_of devices me s).after (in_step devices me s h))

  each_of : (p n : ℕ) (o : Option Private) (w : WorldState) → private_of p w ≡ o → AllHold w → EachOf P w.devices n o w.store
  each_of p n None w is h = tt
  each_of p n (Some me) w is h = unless_passed (passes_turn me) (EachInTurn P w.devices n (passes_none me) w.store) (each_in_turn w.devices n (passes_none me) w.store (h.0 p me is, h.1))

  each_in_action : (x : Action) (w : WorldState) → AllHold w → EachInAction P x w
  each_in_action (Turn p n) w h = each_of p n (private_of p w) w refl h
  each_in_action x w h = tt

  each_in_actions : (xs : List Action) (w : WorldState) → AllHold w → AtEachStep P xs w
  each_in_actions [] w h = tt
  each_in_actions (x ∷ rest) w h = (each_in_action x w h, each_in_actions rest (does x w) (in_action OwnHolds StoreHolds numbers_kept x w h))

  each_of_run : (b : BootState) (images : Images) (log : List Event) → AtEachStep P (all_actions (quotas_of b) log) (booted b images)
  each_of_run b images log = each_in_actions (all_actions (quotas_of b) log) (booted b images) (booted_hold b images)

pub runs_save_storable : RunsSaveStorable
runs_save_storable = each_of_run (λ devices me s. SavesStorable (asking (basic devices) me s)) steps_save_storable

pub runs_save_records : RunsSaveRecords
runs_save_records = each_of_run SavesRecord (λ devices me s h slot values is. steps_save_records devices me s slot values h is)
