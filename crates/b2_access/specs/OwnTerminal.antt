-- A statement asks at the terminal of its partition alone, and leaves which one that is.
use Rattle.std.specs.Prelude.{◌≡◌, ℕ, Option, None, Some}
use Rattle.b2_access.specs.AccessRows.{reach}
use Rattle.b2_access.specs.Causes.{terminal_of}
use Rattle.b2_access.specs.Lending.{SeenLent}
use Rattle.b2_access.specs.Planning.{Finishing, Planning}
use Rattle.b2_access.specs.Reach.{at_terminal}
use Rattle.b2_access.specs.declared.accesses.Access.{Access}
use Rattle.b2_access.specs.declared.accesses.Answer.{Answer}
use Rattle.b2_access.specs.declared.planned.Planned.{Planned}
use Rattle.b2_access.specs.declared.planned.Planned.TheVariants as planned
use Rattle.b2_access.specs.declared.private.Private.{Private}

-- an access names no terminal but this one
abbrev pub NamesAlone : ℕ → Access → Type 0
NamesAlone t a = (u : ℕ) → terminal_of a ≡ Some u → u ≡ t

-- one that reaches this terminal and nothing else
abbrev pub IsAtTerminal : ℕ → Access → Type 0
IsAtTerminal t a = reach a ≡ at_terminal t

-- what is asked for names no other terminal either, where anything is
abbrev pub AskedAt : ℕ → Option Access → Type 0
AskedAt t None = Unit {0}
AskedAt t (Some a) = NamesAlone t a

abbrev pub PlannedAt : ℕ → Planned → Type 0
PlannedAt t (planned.Done o) = Unit {0}
PlannedAt t (planned.Ask a) = NamesAlone t a

-- A way of planning leaves the terminal of the partition, and asks there alone; and one of finishing leaves it.
abbrev pub PlansAtTerminal : (Private → SeenLent → Planning) → Type 0
PlansAtTerminal plan = (me : Private) (s : SeenLent) → ((plan me s).me.term ≡ me.term) × PlannedAt me.term (plan me s).planned

abbrev pub FinishesAtTerminal : (Access → Answer → Private → SeenLent → Finishing) → Type 0
FinishesAtTerminal finish = (x : Access) (a : Answer) (me : Private) (s : SeenLent) → (finish x a me s).me.term ≡ me.term
