-- A turn: it is passed without a step, or it goes on up to the first step that ends it, or to as many as its quota.
use Rattle.std.specs.Prelude.{ℕ, suc, zero, ◌+◌, ◌-◌, ◌==◌, ◌&&◌, not, Bool, Option, Some, None, if◌then◌else◌}
use Rattle.b2_access.specs.Loans.{Loan}
use Rattle.b2_access.specs.Sharing.{ServingOf}
use Rattle.b2_access.specs.Store.{StoreState}
use Rattle.b2_access.specs.declared.private.Private.{Private}
use Rattle.b2_language.specs.Languages.{Ways}
use Rattle.b2_machine.specs.Step.{step}
use Rattle.b2_machine.specs.declared.ends.Stepped.{Stepped}
use Rattle.b2_machine.specs.declared.ends.Turned.{Turned}
use Rattle.b2_machine.specs.declared.ends.Why.{Why}
use Rattle.b2_machine.specs.declared.ends.Why.TheVariants as reason

-- a turn, the private state after it, and what the store then means
pub record TurnEnd (M : Type 0) : Type 0 where
  pub me : Private
  pub after : M
  pub turned : Turned

-- A PARTITION PASSES ITS TURN where it is to pass some yet, and neither a halt nor a reset was asked for.
abbrev pub passes_turn : Private → Bool
passes_turn me = not (me.pass == 0) && (not me.halt && not me.reset)

-- then it has one less to pass; and once it takes a turn it has none
abbrev pub passed_one : Private → Private
passed_one me = record me { pass = me.pass - 1 }

abbrev pub passes_none : Private → Private
passes_none me = record me { pass = 0 }

-- how many steps have counted after one more
abbrev pub counted_on : ℕ → Stepped → ℕ
counted_on steps e = if e.counted then steps + 1 else steps

abbrev pub ended_turn : {M : Type 0} → ℕ → Why → Private → M → TurnEnd M
ended_turn steps w me m = record { me = me; after = m; turned = record { steps = steps; why = w } }

-- the turn ends for a reason, or it goes on
abbrev pub unless_ended : {A : Type 0} → Option Why → (Why → A) → A → A
unless_ended None ends carries_on = carries_on
unless_ended (Some w) ends carries_on = ends w

module _ (ways : Ways) {M : Type 0} (store : M → StoreState) (serving : ServingOf M) (lending : Loan M) where
  -- at most so many more steps, after some that counted
  unfoldable pub turn_from : ℕ → Private → M → ℕ → TurnEnd M
  turn_from zero me m steps = ended_turn steps reason.Quota me m
  turn_from (suc n) me m steps =
      let s = step ways store serving lending me m in
      unless_ended s.end.why
      (λ w. ended_turn (counted_on steps s.end) w s.me s.after)
      (turn_from n s.me s.after (counted_on steps s.end))

  -- A TURN
  abbrev pub turn : ℕ → Private → M → TurnEnd M
  turn quota me m = if passes_turn me then ended_turn 0 reason.Break (passed_one me) m else turn_from quota (passes_none me) m 0
