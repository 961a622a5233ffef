-- What a statement leaves alone, put together out of what its form leaves and the few facts that it still owes: of where it leads, where it
-- asks, the `@` variables, and that an answer by which it waits changes nothing.
use Rattle.std.proofs.Common.{ℕ, Bool, refl}
use Rattle.b2_vars.specs.Globals.{Globals, MayBecome}
use Rattle.b2_access.specs.Dispatch.{Here, dispatch}
use Rattle.b2_access.specs.Homes.{FinishesWithin, Naming, OutcomeNamed, PlannedNamed}
use Rattle.b2_access.specs.Keeping.{FinishesKeepNone}
use Rattle.b2_access.specs.LeftAlone.{FinishesLeave, LeaveTheRest, PlansLeave}
use Rattle.b2_access.specs.Lending.{SeenLent}
use Rattle.b2_access.specs.OwnTerminal.{PlannedAt}
use Rattle.b2_access.specs.Placed.{Statement}
use Rattle.b2_access.specs.Planning.{Finishing, Planning}
use Rattle.b2_access.specs.Steering.{Control, steering}
use Rattle.b2_access.specs.Working.{ChangesNothing, EachReaches, Ends, FinishingIn, Form, LeadsWithin, PlansEachAtTerminal, PlansEachReach, PlansEachWithin, Work, Worked, Working, finishes_by, finishes_in, globals_after, leaves, plain, planned_of, plans_by, stops, told_of_globals}
use Rattle.b2_access.specs.declared.accesses.Access.{Access}
use Rattle.b2_access.specs.declared.accesses.Answer.{Answer}
use Rattle.b2_access.specs.declared.planned.Outcome.TheVariants as outcome
use Rattle.b2_access.specs.declared.private.Private.{Private}
use Rattle.b2_access.proofs.Dispatch.{each_dispatch}
use Rattle.b2_access.proofs.Working.{LeavesFrames, LeavesRest}
use Rattle.b2_access.proofs.Working as form

-- both parts
pub joined : (plan : Private → SeenLent → Planning) (finish : Access → Answer → Private → SeenLent → Finishing) → PlansLeave plan → FinishesLeave finish → LeaveTheRest plan finish
joined plan finish p f = record {
  plans_within = p.within;
  finishes_within = f.within;
  plans_in_place = p.in_place;
  finishes_in_place = f.in_place;
  plans_keep_none = p.keep_none;
  finishes_keep_none = f.keep_none;
  plans_at_terminal = p.at_terminal;
  finishes_at_terminal = f.at_terminal;
  plans_to_show = p.to_show;
  finishes_to_show = f.to_show;
  plans_before_changes = p.before_changes;
  finishes_unchanged = f.unchanged;
  plans_reach = p.reach;
  finishes_reach = f.reach;
}

-- what it plans
pub plans_leave : (way : Private → SeenLent → Working) → PlansEachWithin way → PlansEachAtTerminal way → PlansEachReach way → PlansLeave (plans_by way)
plans_leave way within at_terminal reach = record {
  within = form.plans_within way within;
  in_place = form.plans_in_place way;
  keep_none = form.plans_keep_none way;
  at_terminal = form.plans_at_terminal way at_terminal;
  to_show = form.plans_to_show way;
  before_changes = form.plans_before_changes way;
  reach = form.plans_reach way reach;
}

-- and how it finishes, in any form, by where it leads and what it keeps
pub finishes_leave_by : {W : Type 0} (f : Form W) → LeavesRest f → (way : FinishingIn W) → FinishesWithin (finishes_in f way) → FinishesKeepNone (finishes_in f way) → ChangesNothing f way → EachReaches f way
    → FinishesLeave (finishes_in f way)
finishes_leave_by f rest way within keep_none nothing reach = record {
  within = within;
  in_place = form.finishes_in_place f rest way;
  keep_none = keep_none;
  at_terminal = form.finishes_at_terminal f rest way;
  to_show = form.finishes_to_show f rest way;
  unchanged = form.finishes_unchanged f rest way nothing;
  reach = form.finishes_reach f rest way nothing reach;
}

-- in one that leaves the frames
pub finishes_leave : {W : Type 0} (f : Form W) → LeavesRest f → LeavesFrames f → (way : FinishingIn W) → LeadsWithin way → ChangesNothing f way → EachReaches f way → FinishesLeave (finishes_in f way)
finishes_leave f rest frames way leads nothing reach = finishes_leave_by f rest way (form.finishes_within f frames way leads) (form.finishes_keep_none f frames way) nothing reach

-- the `@` variables stay
pub untouched : (g : Globals) → MayBecome g g
untouched g = record { unreached = λ h. refl; absent = λ h. refl; there = refl }

-- one of control
pub steering_leaves : (way : FinishingIn Control) → FinishesWithin (finishes_in steering way) → FinishesKeepNone (finishes_in steering way) → ChangesNothing steering way → FinishesLeave (finishes_in steering way)
steering_leaves way within keep_none nothing = finishes_leave_by steering form.steering_rest way within keep_none nothing (λ x a me s. untouched s.globals)

-- A STATEMENT THAT ENDS AT ONCE, and goes on or has a code: it asks for nothing, and nothing is finished
module _ (refused : ℕ → Bool → Bool) (ended : Statement → Private → SeenLent → Worked) where
  abbrev at_once : Private → SeenLent → Working
  at_once me s = dispatch refused stops (λ (u : Statement) (h : Here). Ends (ended u me s)) me.place me s

  abbrev nothing_finished : FinishingIn Work
  nothing_finished x a me s = leaves me outcome.Repeat

  pub ends_at_once : ((among : Naming) (u : Statement) (me : Private) (s : SeenLent) → OutcomeNamed among (ended u me s).outcome)
      → ((u : Statement) (me : Private) (s : SeenLent) → MayBecome s.globals (globals_after (ended u me s).work.globals s.globals)) → LeaveTheRest (plans_by at_once) (finishes_by nothing_finished)
  ends_at_once leads reach =
      joined (plans_by at_once) (finishes_by nothing_finished)
      (plans_leave at_once
      (λ among me s w. each_dispatch refused stops (λ u h. Ends (ended u me s)) me s (λ (k : Working). PlannedNamed among (planned_of k)) tt tt (λ p is u. leads among u me s))
      (λ me s. each_dispatch refused stops (λ u h. Ends (ended u me s)) me s (λ (k : Working). PlannedAt me.term (planned_of k)) tt tt (λ p is u. tt))
      (λ me s. each_dispatch refused stops (λ u h. Ends (ended u me s)) me s (λ (k : Working). MayBecome s.globals (globals_after (told_of_globals k) s.globals)) (untouched s.globals) (untouched s.globals) (λ p is u. reach u me s)))
      (finishes_leave plain form.plain_rest form.plain_frames nothing_finished (λ among x a me s w. tt) (λ x a me s is. refl) (λ x a me s. untouched s.globals))
