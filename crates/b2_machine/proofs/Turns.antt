-- A turn by its next step.
use Rattle.std.proofs.Common.{◌≡◌, ℕ, suc, zero, ◌-◌, ◌≤◌, refl, sym, ap, ◌∙◌, arith}
use Rattle.b2_access.specs.Loans.{Loan}
use Rattle.b2_access.specs.Sharing.{ServingOf}
use Rattle.b2_access.specs.Store.{StoreState}
use Rattle.b2_access.specs.declared.private.Private.{Private}
use Rattle.b2_language.specs.Languages.{Ways}
use Rattle.b2_machine.specs.Step.{StepEnd, step}
use Rattle.b2_machine.specs.Turn.{TurnEnd, counted_on, ended_turn, turn_from, unless_ended}
use Rattle.b2_machine.specs.declared.ends.Stepped.{Stepped}
use Rattle.b2_machine.specs.declared.ends.Why.TheVariants as reason

module _ (ways : Ways) {M : Type 0} (store : M → StoreState) (serving : ServingOf M) (lending : Loan M) where
  -- what is left of the turn after a step
  abbrev pub after_step : ℕ → ℕ → StepEnd M → TurnEnd M
  after_step n steps s = unless_ended s.end.why (λ w. ended_turn (counted_on steps s.end) w s.me s.after) (turn_from ways store serving lending n s.me s.after (counted_on steps s.end))

  by_step : (n : ℕ) (me : Private) (m : M) (steps : ℕ) → after_step n steps (step ways store serving lending me m) ≡ turn_from ways store serving lending (suc n) me m steps
  unfolding turn_from
  by_step n me m steps = refl

  -- a turn is its first step, and what is left after it
  pub by_first : (n : ℕ) (me you : Private) (m after : M) (e : Stepped) (steps : ℕ) → ◌≡◌ {A = StepEnd M} (record { me = you; after = after; end = e }) (step ways store serving lending me m)
      → after_step n steps (record { me = you; after = after; end = e }) ≡ turn_from ways store serving lending (suc n) me m steps
  by_first n me you m after e steps is = ap (after_step n steps) is ∙ by_step n me m steps

  -- where a step is the same after something, so is a turn of at least one
  pub first_same : (n : ℕ) (me : Private) (m after : M) (steps : ℕ) → step ways store serving lending me after ≡ step ways store serving lending me m → turn_from ways store serving lending (suc n) me after steps ≡ turn_from ways store serving lending (suc n) me m steps
  first_same n me m after steps is = sym (by_step n me after steps) ∙ ap (after_step n steps) is ∙ by_step n me m steps

  at_zero : (me : Private) (m : M) (steps : ℕ) → ended_turn steps reason.Quota me m ≡ turn_from ways store serving lending zero me m steps
  unfolding turn_from
  at_zero me m steps = refl

  none_left : (quota taken : ℕ) → quota ≤ taken → quota - taken ≡ zero
  none_left quota taken h = omega arith

  pub at_end : (quota taken : ℕ) (me : Private) (m : M) (steps : ℕ) → quota ≤ taken → ended_turn steps reason.Quota me m ≡ turn_from ways store serving lending (quota - taken) me m steps
  at_end quota taken me m steps h = at_zero me m steps ∙ ap (λ (n : ℕ). turn_from ways store serving lending n me m steps) (sym (none_left quota taken h))
