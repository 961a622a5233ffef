-- What holds of each partition that is present and of its number: whatever happens keeps it, where a flag and a turn do.
use Rattle.std.specs.Prelude.{◌≡◌, ℕ, List, [], ◌∷◌, Option, Some, None, refl}
use Rattle.std.proofs.Common.{sym, subst}
use Rattle.b2_access.specs.Rows.{row_of, with_row}
use Rattle.b2_access.specs.Store.{StoreState}
use Rattle.b2_access.specs.declared.devices.Device.{Device}
use Rattle.b2_access.specs.declared.private.Private.{Private}
use Rattle.b2_boot.specs.declared.log.Event.{Event}
use Rattle.b2_sched.proofs.GroupRows.{row_holds}
use Rattle.b2_sched.proofs.Lasting.{by_actions}
use Rattle.b2_sched.specs.Laws.{all_actions}
use Rattle.b2_sched.specs.Turns.{turn_of}
use Rattle.b2_sched.specs.World.{WorldState, Action, Key, Front, Halt, Reset, Turn, asked_to_halt, asked_to_reset, does, does_all, private_of, ran, row_changed, with_turn}

module _ (P : ℕ → Private → Type 0) where
  abbrev pub EachIs : List (ℕ × Private) → Type 0
  EachIs rows = (p : ℕ) (me : Private) → row_of p rows ≡ Some me → P p me

  -- another own state of one
  pub each_row : (p : ℕ) (x : Private) (rows : List (ℕ × Private)) → P p x → EachIs rows → EachIs (with_row p rows x)
  each_row p x rows new old q me is = row_holds (λ you. P q you) q p x rows (λ e. subst (λ k. P k x) (sym e) new) (λ you there. old q you there) me is

  -- another own state of one that is present, where such a change keeps it
  pub each_changed : (f : Private → Private) → ((p : ℕ) (me : Private) → P p me → P p (f me)) → (p : ℕ) (o : Option Private) (rows : List (ℕ × Private)) → row_of p rows ≡ o → EachIs rows → EachIs (row_changed p o f rows)
  each_changed f keeps p None rows is old = old
  each_changed f keeps p (Some me) rows is old = each_row p (f me) rows (keeps p me (old p me is)) old

  pub record IsKept : Type 0 where
    pub halt : (p : ℕ) (me : Private) → P p me → P p (asked_to_halt me)
    pub reset : (p : ℕ) (me : Private) → P p me → P p (asked_to_reset me)
    pub turn : (devices : List Device) (p n : ℕ) (me : Private) (s : StoreState) → P p me → P p (turn_of devices n me s).me

  module _ (kept : IsKept) where
    each_turned : (p n : ℕ) (o : Option Private) (w : WorldState) → private_of p w ≡ o → EachIs w.privates → EachIs (with_turn p o n w).privates
    each_turned p n None w is old = old
    each_turned p n (Some me) w is old = each_row p (turn_of w.devices n me w.store).me w.privates (kept.turn w.devices p n me w.store (old p me is)) old

    pub each_action : (a : Action) (w : WorldState) → EachIs w.privates → EachIs (does a w).privates
    each_action (Key t k) w old = old
    each_action (Front t p) w old = old
    each_action (Halt p) w old = each_changed asked_to_halt kept.halt p (private_of p w) w.privates refl old
    each_action (Reset p) w old = each_changed asked_to_reset kept.reset p (private_of p w) w.privates refl old
    each_action (Turn p n) w old = each_turned p n (private_of p w) w refl old

    each_actions : (acts : List Action) (w : WorldState) → EachIs w.privates → EachIs (does_all acts w).privates
    each_actions [] w old = old
    each_actions (a ∷ rest) w old = each_actions rest (does a w) (each_action a w old)

    pub each_ran : (log : List Event) (w : WorldState) → EachIs w.privates → EachIs (ran log w).privates
    each_ran log w old = subst (λ (v : WorldState). EachIs v.privates) (sym (by_actions log w)) (each_actions (all_actions w.quotas log) w old)
