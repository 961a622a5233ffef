-- What steps leave as it is.
use Rattle.std.specs.Prelude.{◌≡◌, ℕ, Option, Some, None, IsSome, OnOk, Result}
use Rattle.b2_access.specs.Store.{StoreState, content}
use Rattle.b2_access.specs.Touching.{IsLegal}
use Rattle.b2_access.specs.declared.accesses.Access.{Access}
use Rattle.b2_access.specs.declared.objects.Object.{Object}
use Rattle.b2_machine.specs.declared.statements.Opening.{Opening}
use Rattle.b2_machine.specs.declared.statements.Opening.TheVariants as opening
use Rattle.b2_machine.specs.declared.statements.Progress.{Progress}
use Rattle.b2_machine.specs.declared.statements.Progress.TheVariants as progress

-- what is listed in a store is so in another
abbrev pub KeepsAll : StoreState → StoreState → Type 0
KeepsAll s t = (o : Object) → IsSome (content s o) → IsSome (content t o)

-- What a step keeps: the references that the store holds on to, which partition it is, and, where memory doesn't fail, what is
-- listed.
pub record Keeps {A E H : Type 0} (result : Result A E) (held holds : H) (p q : ℕ) (s t : StoreState) : Type 0 where
  pub same : holds ≡ held
  pub part : q ≡ p
  pub listed : OnOk result (KeepsAll s t)

-- a statement asks for what may be asked for
abbrev pub IsLegalProgress : Progress → Type 0
IsLegalProgress (progress.Ended e) = Unit {0}
IsLegalProgress (progress.Asks a b w) = IsLegal a

-- and where it was opened, so does what it asks for, which is beside
abbrev pub IsLegalOpening : Opening → Option Access → Type 0
IsLegalOpening (opening.Asks b w) None = ⊥
IsLegalOpening (opening.Asks b w) (Some a) = IsLegal a
IsLegalOpening o a = Unit {0}
