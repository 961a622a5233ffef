-- What a turn over the watched store leaves of a world.
use Rattle.std.specs.Prelude.{◌≡◌, ℕ, List, Option, Some}
use Rattle.std.proofs.Common.{sym, ap, subst, ◌∙◌}
use Rattle.b2_access.specs.Leading.{NamesIn}
use Rattle.b2_access.specs.Rows.{with_row}
use Rattle.b2_access.specs.Store.{StoreState}
use Rattle.b2_access.specs.declared.devices.Device.{Device}
use Rattle.b2_access.specs.declared.private.Private.{Private}
use Rattle.b2_audit.specs.Marks.{Marks}
use Rattle.b2_audit.specs.Steps.{marks_after}
use Rattle.b2_machine.specs.Stays.{KeepsAll}
use Rattle.b2_machine.specs.Turn.{TurnEnd}
use Rattle.b2_machine.specs.declared.ends.Turned.{Turned}
use Rattle.b2_sched.proofs.MarkedTurns.{turns_mark}
use Rattle.b2_sched.proofs.Present.{there_number, turn_present}
use Rattle.b2_sched.proofs.Settled.{turn_steps}
use Rattle.b2_sched.specs.Marking.{Watched, watched_turn, with_marks}
use Rattle.b2_sched.specs.Presence.{ArePresent, IsPresent, is_number}
use Rattle.b2_sched.specs.Turns.{steps_in_turn, turn_of}
use Rattle.b2_sched.specs.World.{WorldState, Turn, after_turn, does, private_of, tallied, with_turn}

module _ (devices : List Device) (p n : ℕ) (me x : Private) (s t : StoreState) (m k : Marks) (r : Turned) (told : ◌≡◌ {A = TurnEnd Watched} (record { me = x; after = (t, k); turned = r }) (watched_turn devices n me (s, m))) (is : IsPresent p me s m) where
  plainly : ◌≡◌ {A = TurnEnd Watched} (record { me = x; after = (t, k); turned = r }) (with_marks (turn_of devices n me s) (marks_after (steps_in_turn devices p n me s) m))
  plainly =
      let numbers : NamesIn is_number s = λ k q leads. there_number s q (is.names k q leads) in
      told ∙ turns_mark devices p n me s m is.settled.number is.settled.part (turn_steps devices p n me s is.settled numbers).0 is.whole is.own

  -- the partitions that are present
  pub turned_present : (rows : List (ℕ × Private)) → KeepsAll s t → ArePresent rows s m → ArePresent (with_row p rows x) t k
  turned_present rows keeps present = subst (λ (y : TurnEnd Watched). ArePresent (with_row p rows y.me) t y.after.1) (sym plainly) (turn_present devices p n me rows s t m (ap (λ (y : TurnEnd Watched). y.after.0) plainly) keeps is present)

  -- the world, with its counts
  pub turned_world : (w : WorldState) → w.devices ≡ devices → w.store ≡ s → w.marks ≡ m → private_of p w ≡ Some me
      → record w { privates = with_row p w.privates x; store = t; marks = k; turns = tallied w.turns 1; steps = tallied w.steps r.steps } ≡ does (Turn p n) w
  turned_world w same store marks there =
      ap (λ (y : TurnEnd Watched). after_turn p (record { me = y.me; after = y.after.0; turned = y.turned }) y.after.1 w) plainly
      ∙ ap (λ (ds : List Device). after_turn p (turn_of ds n me s) (marks_after (steps_in_turn ds p n me s) m) w) (sym same)
      ∙ ap (λ (z : StoreState). after_turn p (turn_of w.devices n me z) (marks_after (steps_in_turn w.devices p n me z) m) w) (sym store)
      ∙ ap (λ (z : Marks). after_turn p (turn_of w.devices n me w.store) (marks_after (steps_in_turn w.devices p n me w.store) z) w) (sym marks)
      ∙ ap (λ (o : Option Private). with_turn p o n w) (sym there)
