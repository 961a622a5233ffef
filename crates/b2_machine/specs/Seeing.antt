-- What a store means, seen as what another one means: where the two serve and lend alike, seen so, a step and a turn over the one are,
-- seen so, what they are over the other.
use Rattle.std.specs.Prelude.{◌≡◌, ℕ}
use Rattle.b2_vars.specs.Globals.{Globals}
use Rattle.b2_access.specs.Loans.{Loan}
use Rattle.b2_access.specs.Sharing.{Gives, ServingOf}
use Rattle.b2_access.specs.Store.{StoreState}
use Rattle.b2_access.specs.declared.accesses.Access.{Access}
use Rattle.b2_access.specs.declared.lending.At.{At}
use Rattle.b2_access.specs.declared.private.Private.{Private}
use Rattle.b2_language.specs.Languages.{Ways}
use Rattle.b2_machine.specs.Step.{StepEnd, step}
use Rattle.b2_machine.specs.Turn.{TurnEnd, turn}

-- what is given, what a step leaves and what a turn leaves, seen so
abbrev pub given_seen : {M N : Type 0} → (M → N) → Gives M → Gives N
given_seen see g = record { after = see g.after; answer = g.answer }

abbrev pub step_seen : {M N : Type 0} → (M → N) → StepEnd M → StepEnd N
step_seen see e = record { me = e.me; after = see e.after; end = e.end }

abbrev pub turn_seen : {M N : Type 0} → (M → N) → TurnEnd M → TurnEnd N
turn_seen see t = record { me = t.me; after = see t.after; turned = t.turned }

module _ {M N : Type 0} (store : M → StoreState) (other_store : N → StoreState) (serving : ServingOf M) (other_serving : ServingOf N) (lending : Loan M) (other_lending : Loan N) where
  -- seen so, it has the same store in it, serves alike and lends alike
  pub record IsSeenAs (see : M → N) : Type 0 where
    pub stores : ◌≡◌ {A = M → StoreState} store (λ m. other_store (see m))
    pub serves : (m : M) (who : ℕ) (a : Access) → given_seen see (serving m who a) ≡ other_serving (see m) who a
    pub lends : (who home : ℕ) (whose : At) (m : M) (left : Globals) → see (lending who home whose m left) ≡ other_lending who home whose (see m) left

  abbrev pub StepsAreSeen : Ways → Type 0
  StepsAreSeen ways = (see : M → N) → IsSeenAs see → (me : Private) (m : M) → step_seen see (step ways store serving lending me m) ≡ step ways other_store other_serving other_lending me (see m)

  abbrev pub TurnsAreSeen : Ways → Type 0
  TurnsAreSeen ways = (see : M → N) → IsSeenAs see → (quota : ℕ) (me : Private) (m : M) → turn_seen see (turn ways store serving lending quota me m) ≡ turn ways other_store other_serving other_lending quota me (see m)
