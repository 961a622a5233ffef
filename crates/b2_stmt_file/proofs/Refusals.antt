-- A code that ends a statement before it asks for anything.
use Rattle.std.proofs.Common.{◌≡◌, ◌∙◌, ℕ, sym, ap, Result}
use Rattle.b2_base.specs.Refusals.{IsRefused}
use Rattle.b2_base.specs.declared.codes.Fault.{Fault}
use Rattle.b2_base.specs.declared.codes.Fault.TheVariants as fault
use Rattle.b2_access.specs.declared.accesses.Access.{Access}
use Rattle.b2_access.specs.declared.planned.Outcome.{Outcome}
use Rattle.b2_access.specs.declared.planned.Planned.TheVariants as planned
use Rattle.b2_access.specs.Endings.{FailsWith}
use Rattle.b2_drive.specs.Asking.{asks_or_fails}

pub asked_refused : (r : Result Access ℕ) (f : Fault) (o : Outcome) → IsRefused r f → FailsWith f o → planned.Done o ≡ asks_or_fails r
asked_refused r (fault.Code code) o is fails = ap planned.Done fails ∙ sym (ap asks_or_fails is)
asked_refused r fault.NoMemory o is fails = absurd fails
