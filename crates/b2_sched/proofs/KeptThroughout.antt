-- What a step keeps, of its partition and of the store, all that happens keeps of each partition and of the store.
use Rattle.std.specs.Prelude.{◌≡◌, ℕ, zero, suc, ◌-◌, ◌==◌, Bool, true, false, cond, List, [], ◌∷◌, map, Option, Some, None, is_some, refl}
use Rattle.std.proofs.Common.{ap, subst}
use Rattle.b2_term.specs.Terminal.{TerminalState, keyed}
use Rattle.b2_access.specs.Loans.{lends}
use Rattle.b2_access.specs.Rows.{row_of}
use Rattle.b2_access.specs.Serving.{itself}
use Rattle.b2_access.specs.Store.{StoreState, content}
use Rattle.b2_access.specs.declared.devices.Device.{Device}
use Rattle.b2_access.specs.declared.objects.Object.TheVariants as object
use Rattle.b2_access.specs.declared.private.Private.{Private}
use Rattle.b2_boot.specs.declared.boot.BootPartition.{BootPartition}
use Rattle.b2_machine.specs.Turn.{TurnEnd, counted_on, ended_turn, passes_none, turn_from, unless_ended}
use Rattle.b2_machine.specs.declared.ends.Why.{Why}
use Rattle.b2_machine.proofs.PassedTurns.{each_turn}
use Rattle.b2_store.specs.Changes.{with_terminal}
use Rattle.b2_store.specs.DiskWork.{serves}
use Rattle.b2_sched.proofs.EachRow.{EachIs, each_changed, each_row}
use Rattle.b2_sched.proofs.GroupRows.{is_it}
use Rattle.b2_sched.specs.Choice.{basic}
use Rattle.b2_sched.specs.Start.{private_row}
use Rattle.b2_sched.specs.Turns.{step_of, turn_of}
use Rattle.b2_sched.specs.World.{WorldState, Action, Key, Front, Halt, Reset, Turn, asked_to_halt, asked_to_reset, does, does_all, private_of, with_turn}

-- a step keeps it, and so does what happens besides: a partition is asked to halt or to reset, or is to pass other turns, and a terminal
-- changes
pub record AreKept (Own : List Device → Private → Type 0) (Shared : StoreState → Type 0) : Type 0 where
  pub step : (devices : List Device) (me : Private) (s : StoreState) → Own devices me × Shared s → Own devices (step_of devices me s).me × Shared (step_of devices me s).after
  pub halt : (devices : List Device) (me : Private) → Own devices me → Own devices (asked_to_halt me)
  pub reset : (devices : List Device) (me : Private) → Own devices me → Own devices (asked_to_reset me)
  pub pass : (devices : List Device) (me : Private) (k : ℕ) → Own devices me → Own devices (record me { pass = k })
  pub terminal : (o : Option TerminalState) (t : ℕ) (f : TerminalState → TerminalState) (s : StoreState) → Shared s → Shared (with_terminal o t f s)

module _ (Own : List Device → Private → Type 0) (Shared : StoreState → Type 0) (kept : AreKept Own Shared) where
  module _ (devices : List Device) where
    abbrev Both : Private → StoreState → Type 0
    Both me s = Own devices me × Shared s

    abbrev BothAfter : ℕ → Private → StoreState → ℕ → Type 0
    BothAfter n me s steps = Both (turn_from (basic devices) itself serves lends n me s steps).me (turn_from (basic devices) itself serves lends n me s steps).after

    in_turn : (n : ℕ) (me : Private) (s : StoreState) (steps : ℕ) → Both me s → BothAfter n me s steps
    unfolding turn_from
    in_turn zero me s steps k = k
    in_turn (suc n) me s steps k =
        let x = step_of devices me s in
        by x.end.why (kept.step devices me s k) (in_turn n x.me x.after (counted_on steps x.end) (kept.step devices me s k))
      where
        by : (o : Option Why) → Both (step_of devices me s).me (step_of devices me s).after → BothAfter n (step_of devices me s).me (step_of devices me s).after (counted_on steps (step_of devices me s).end)
            → Both (unless_ended o (λ w. ended_turn (counted_on steps (step_of devices me s).end) w (step_of devices me s).me (step_of devices me s).after) (turn_from (basic devices) itself serves lends n (step_of devices me s).me (step_of devices me s).after (counted_on steps (step_of devices me s).end))).me
            (unless_ended o (λ w. ended_turn (counted_on steps (step_of devices me s).end) w (step_of devices me s).me (step_of devices me s).after) (turn_from (basic devices) itself serves lends n (step_of devices me s).me (step_of devices me s).after (counted_on steps (step_of devices me s).end))).after
        by None here later = later
        by (Some why) here later = here

  -- a world
  abbrev pub EachOwn : List Device → ℕ → Private → Type 0
  EachOwn devices p me = Own devices me

  abbrev pub InWorld : WorldState → Type 0
  InWorld w = EachIs (EachOwn w.devices) w.privates × Shared w.store

  turned : (p n : ℕ) (o : Option Private) (w : WorldState) → private_of p w ≡ o → InWorld w → InWorld (with_turn p o n w)
  turned p n None w is k = k
  turned p n (Some me) w is k =
      let own = k.0 p me is in
      let after = each_turn (basic w.devices) itself serves lends (λ (t : TurnEnd StoreState). Both w.devices t.me t.after) n me w.store (kept.pass w.devices me (me.pass - 1) own, k.1)
      (in_turn w.devices n (passes_none me) w.store 0 (kept.pass w.devices me 0 own, k.1)) in
      (each_row (EachOwn w.devices) p (turn_of w.devices n me w.store).me w.privates after.0 k.0, after.1)

  pub in_action : (x : Action) (w : WorldState) → InWorld w → InWorld (does x w)
  in_action (Key t key) w k = (k.0, kept.terminal (content w.store (object.Terminal t)) t (keyed key) w.store k.1)
  in_action (Front t p) w k = (k.0, kept.terminal (content w.store (object.Terminal t)) t (λ x. record x { front = p }) w.store k.1)
  in_action (Halt p) w k = (each_changed (EachOwn w.devices) asked_to_halt (λ q me own. kept.halt w.devices me own) p (private_of p w) w.privates refl k.0, k.1)
  in_action (Reset p) w k = (each_changed (EachOwn w.devices) asked_to_reset (λ q me own. kept.reset w.devices me own) p (private_of p w) w.privates refl k.0, k.1)
  in_action (Turn p n) w k = turned p n (private_of p w) w refl k

  pub in_actions : (xs : List Action) (w : WorldState) → InWorld w → InWorld (does_all xs w)
  in_actions [] w k = k
  in_actions (x ∷ rest) w k = in_actions rest (does x w) (in_action x w k)

-- What each partition is as it starts, each partition of a boot is.
first_own : (P : Private → Type 0) (x : BootPartition) (rest : Option Private) (me : Private) → P (private_row x).1 → (rest ≡ Some me → P me) → (b : Bool) → cond b (Some (private_row x).1) rest ≡ Some me → P me
first_own P x rest me here later true is = subst P (is_it (private_row x).1 me is) here
first_own P x rest me here later false is = later is

pub booted_own : (P : Private → Type 0) → ((x : BootPartition) → P (private_row x).1) → (ps : List BootPartition) → EachIs (λ p me. P me) (map private_row ps)
booted_own P starts [] p me is = let clash : false ≡ true = ap (λ (o : Option Private). is_some o) is in cc
booted_own P starts (x ∷ xs) p me is = first_own P x (row_of p (map private_row xs)) me (starts x) (booted_own P starts xs p me) (x.number == p) is
