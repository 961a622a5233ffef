-- Steps that count, and turns that keep to their quota.
use Rattle.std.specs.Prelude.{◌≡◌, false, true, is_some}
use Rattle.b2_access.specs.Loans.{Loan}
use Rattle.b2_access.specs.Sharing.{ServingOf}
use Rattle.b2_access.specs.Store.{StoreState}
use Rattle.b2_access.specs.declared.private.Private.{Private}
use Rattle.b2_language.specs.Languages.{Ways}
use Rattle.b2_machine.specs.Step.{step}
use Rattle.b2_machine.specs.declared.ends.Stepped.{Stepped}

-- a step that doesn't count ends its turn
abbrev pub CountsOrEnds : Stepped → Type 0
CountsOrEnds e = e.counted ≡ false → is_some e.why ≡ true

module _ (ways : Ways) {M : Type 0} (store : M → StoreState) (serving : ServingOf M) (lending : Loan M) where
  -- So a turn has at most one step that doesn't count, its last.
  abbrev pub StepsCountOrEnd : Type 0
  StepsCountOrEnd = (me : Private) (m : M) → CountsOrEnds (step ways store serving lending me m).end

  -- And it has changed nothing of the partition, but that a halt which was asked for meanwhile is forgotten.
  abbrev pub UncountedStepsChangeNothing : Type 0
  UncountedStepsChangeNothing = (me : Private) (m : M) → (step ways store serving lending me m).end.counted ≡ false → record (step ways store serving lending me m).me { halt = me.halt } ≡ me
