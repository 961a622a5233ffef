-- The files that a partition has open, as its steps go on.
use Rattle.std.specs.Prelude.{ℕ, List}
use Rattle.b2_vars.specs.Globals.{Globals}
use Rattle.b2_access.specs.Fitting.{AnswerFits}
use Rattle.b2_access.specs.Loans.{Loan}
use Rattle.b2_access.specs.OpenFiles.{HasOpenFiles}
use Rattle.b2_access.specs.Sharing.{ServingOf}
use Rattle.b2_access.specs.Store.{StoreState}
use Rattle.b2_access.specs.Touching.{IsLegal}
use Rattle.b2_access.specs.declared.accesses.Access.{Access}
use Rattle.b2_access.specs.declared.devices.Device.{Device}
use Rattle.b2_access.specs.declared.lending.At.{At}
use Rattle.b2_access.specs.declared.private.Private.{Private}
use Rattle.b2_language.specs.Languages.{Ways}
use Rattle.b2_machine.specs.Step.{lent_to_begin, step}

-- what may be asked for is answered by what fits
abbrev pub FitsFrom : {M : Type 0} → ServingOf M → M → Type 0
FitsFrom serving m = (who : ℕ) (a : Access) → IsLegal a → AnswerFits a (serving m who a).answer

-- Where each file that a partition has open is on a platter that the table lists for it, at its first sector or after it, that is so after
-- a step, if what may be asked for over whatever is lent to a statement is answered by what fits.
abbrev pub StepsKeepOpenFiles : (List Device → Ways) → {M : Type 0} → (M → StoreState) → ServingOf M → Loan M → Type 0
StepsKeepOpenFiles ways {M} store serving lending =
    (devices : List Device) (me : Private) (m : M)
    → ((home : ℕ) (whose : At) (left : Globals) → FitsFrom serving (lent_to_begin store serving lending me.part home whose m left))
    → HasOpenFiles devices me → HasOpenFiles devices (step (ways devices) store serving lending me m).me
