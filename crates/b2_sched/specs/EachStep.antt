-- What holds at each step of all that happens, and what holds at some step of it. A turn that is passed has none.
use Rattle.std.specs.Prelude.{◌≡◌, ◌⊎◌, ℕ, zero, suc, Bool, true, false, List, [], ◌∷◌, Option, Some, None}
use Rattle.b2_access.specs.Store.{StoreState}
use Rattle.b2_access.specs.declared.devices.Device.{Device}
use Rattle.b2_access.specs.declared.private.Private.{Private}
use Rattle.b2_machine.specs.Turn.{passes_none, passes_turn}
use Rattle.b2_sched.specs.Turns.{step_of}
use Rattle.b2_sched.specs.World.{WorldState, Action, Turn, does, private_of}

-- what is so unless a turn is passed, and what is so where it is taken
abbrev pub UnlessPassed : Bool → Type 0 → Type 0
UnlessPassed true T = Unit {0}
UnlessPassed false T = T

abbrev pub IfTaken : Bool → Type 0 → Type 0
IfTaken true T = ⊥
IfTaken false T = T

-- What may hold of a step: over the devices that there are, of the own state and of the store from which it goes.
module _ (P : List Device → Private → StoreState → Type 0) where
  -- at each of at most so many steps
  abbrev pub EachInTurn : List Device → ℕ → Private → StoreState → Type 0
  EachInTurn devices zero me s = Unit {0}
  EachInTurn devices (suc n) me s =
      P devices me s × ((step_of devices me s).end.why ≡ None → EachInTurn devices n (step_of devices me s).me (step_of devices me s).after)

  -- a partition that is absent takes none, and neither does one that passes its turn
  abbrev pub EachOf : List Device → ℕ → Option Private → StoreState → Type 0
  EachOf devices n None s = Unit {0}
  EachOf devices n (Some me) s = UnlessPassed (passes_turn me) (EachInTurn devices n (passes_none me) s)

  abbrev pub EachInAction : Action → WorldState → Type 0
  EachInAction (Turn p n) w = EachOf w.devices n (private_of p w) w.store
  EachInAction x w = Unit {0}

  -- AT EACH STEP of what happens
  abbrev pub AtEachStep : List Action → WorldState → Type 0
  AtEachStep [] w = Unit {0}
  AtEachStep (x ∷ xs) w = EachInAction x w × AtEachStep xs (does x w)

  -- at some of them
  abbrev pub SomeInTurn : List Device → ℕ → Private → StoreState → Type 0
  SomeInTurn devices zero me s = ⊥
  SomeInTurn devices (suc n) me s =
      P devices me s ⊎ (((step_of devices me s).end.why ≡ None) × SomeInTurn devices n (step_of devices me s).me (step_of devices me s).after)

  abbrev pub SomeOf : List Device → ℕ → Option Private → StoreState → Type 0
  SomeOf devices n None s = ⊥
  SomeOf devices n (Some me) s = IfTaken (passes_turn me) (SomeInTurn devices n (passes_none me) s)

  abbrev pub SomeInAction : Action → WorldState → Type 0
  SomeInAction (Turn p n) w = SomeOf w.devices n (private_of p w) w.store
  SomeInAction x w = ⊥

  -- AT SOME STEP of what happens
  abbrev pub AtSomeStep : List Action → WorldState → Type 0
  AtSomeStep [] w = ⊥
  AtSomeStep (x ∷ xs) w = SomeInAction x w ⊎ AtSomeStep xs (does x w)
