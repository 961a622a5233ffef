-- A step and a turn go by what the table of devices lists for their partition, and by nothing else of it.
use Rattle.std.specs.Prelude.{◌≡◌, ℕ, List}
use Rattle.b2_access.specs.Loans.{Loan}
use Rattle.b2_access.specs.Sharing.{ServingOf}
use Rattle.b2_access.specs.Store.{StoreState}
use Rattle.b2_access.specs.declared.devices.Device.{Device}
use Rattle.b2_access.specs.declared.private.Private.{Private}
use Rattle.b2_language.specs.Languages.{ListAlike, Ways}
use Rattle.b2_machine.specs.Step.{step}
use Rattle.b2_machine.specs.Turn.{turn}

module _ (ways : List Device → Ways) {M : Type 0} (store : M → StoreState) (serving : ServingOf M) (lending : Loan M) where
  abbrev pub StepsGoByListed : Type 0
  StepsGoByListed = (ds es : List Device) (me : Private) (m : M) → ListAlike me.part ds es → step (ways ds) store serving lending me m ≡ step (ways es) store serving lending me m

  abbrev pub TurnsGoByListed : Type 0
  TurnsGoByListed = (ds es : List Device) (quota : ℕ) (me : Private) (m : M) → ListAlike me.part ds es → turn (ways ds) store serving lending quota me m ≡ turn (ways es) store serving lending quota me m
