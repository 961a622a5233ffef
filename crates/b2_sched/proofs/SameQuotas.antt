-- Two lists of quotas that say the same of each partition that is present in a world lead from it to the same.
use Rattle.std.specs.Prelude.{◌≡◌, ℕ, zero, suc, ◌+◌, true, List, [], ◌∷◌, ◌++◌, Option, Some, None, is_some, refl}
use Rattle.std.proofs.Common.{sym, ap, ◌∙◌}
use Rattle.b2_access.specs.declared.private.Private.{Private}
use Rattle.b2_boot.specs.Quotas.{quota_at}
use Rattle.b2_boot.specs.declared.log.Event.{Event}
use Rattle.b2_boot.specs.declared.log.Event.TheVariants as event
use Rattle.b2_sched.proofs.Folds.{does_append}
use Rattle.b2_sched.proofs.Lasting.{all_there}
use Rattle.b2_sched.specs.Laws.{all_actions}
use Rattle.b2_sched.specs.World.{WorldState, Action, Turn, actions, does, does_all, private_of, rounds, turns_from, with_turn}

abbrev pub SayTheSame : List (ℕ × ℕ) → List (ℕ × ℕ) → WorldState → Type 0
SayTheSame qs rs w = (p : ℕ) → is_some (private_of p w) ≡ true → quota_at p qs ≡ quota_at p rs

-- whatever happens, the same are present
module _ (qs rs : List (ℕ × ℕ)) where
  still_same : (acts : List Action) (w : WorldState) → SayTheSame qs rs w → SayTheSame qs rs (does_all acts w)
  still_same acts w same p there = same p (sym (all_there p acts w) ∙ there)

  -- the turn of an absent one does nothing, whatever its quota
  turn_same : (p : ℕ) (m : Option Private) (w : WorldState) → (is_some m ≡ true → quota_at p qs ≡ quota_at p rs) → with_turn p m (quota_at p qs) w ≡ with_turn p m (quota_at p rs) w
  turn_same p None w same = refl
  turn_same p (Some me) w same = ap (λ (n : ℕ). with_turn p (Some me) n w) (same refl)

  turns_same : (n p : ℕ) (w : WorldState) → SayTheSame qs rs w → does_all (turns_from qs p n) w ≡ does_all (turns_from rs p n) w
  turns_same zero p w same = refl
  turns_same (suc n) p w same =
      turns_same n (p + 1) (does (Turn p (quota_at p qs)) w) (still_same (Turn p (quota_at p qs) ∷ []) w same)
      ∙ ap (λ (v : WorldState). does_all (turns_from rs (p + 1) n) v) (turn_same p (private_of p w) w (same p))

  rounds_same : (n : ℕ) (w : WorldState) → SayTheSame qs rs w → does_all (rounds qs n) w ≡ does_all (rounds rs n) w
  rounds_same zero w same = refl
  rounds_same (suc n) w same =
      let round = turns_from qs 1 16 in
      does_append round (rounds qs n) w
      ∙ rounds_same n (does_all round w) (still_same round w same)
      ∙ ap (λ (v : WorldState). does_all (rounds rs n) v) (turns_same 16 1 w same)
      ∙ sym (does_append (turns_from rs 1 16) (rounds rs n) w)

  event_same : (e : Event) (w : WorldState) → SayTheSame qs rs w → does_all (actions qs e) w ≡ does_all (actions rs e) w
  event_same (event.Key t k) w same = refl
  event_same (event.Front t p) w same = refl
  event_same (event.Halt p) w same = refl
  event_same (event.Reset p) w same = refl
  event_same (event.Turn p n) w same = refl
  event_same (event.Rounds n) w same = rounds_same n w same

  -- event by event, and over a run
  pub all_same : (log : List Event) (w : WorldState) → SayTheSame qs rs w → does_all (all_actions qs log) w ≡ does_all (all_actions rs log) w
  all_same [] w same = refl
  all_same (e ∷ es) w same =
      does_append (actions qs e) (all_actions qs es) w
      ∙ all_same es (does_all (actions qs e) w) (still_same (actions qs e) w same)
      ∙ ap (λ (v : WorldState). does_all (all_actions rs es) v) (event_same e w same)
      ∙ sym (does_append (actions rs e) (all_actions rs es) w)
