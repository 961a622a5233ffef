-- Codes that end a statement before it asks for anything.
use Rattle.std.proofs.Common.{◌≡◌, ◌∙◌, ℕ, List, sym, ap, Result}
use Rattle.b2_base.specs.Refusals.{IsRefused}
use Rattle.b2_base.specs.declared.codes.Fault.{Fault}
use Rattle.b2_base.specs.declared.codes.Fault.TheVariants as fault
use Rattle.b2_access.specs.declared.planned.Outcome.{Outcome}
use Rattle.b2_access.specs.declared.planned.Planned.TheVariants as planned
use Rattle.b2_access.specs.Endings.{FailsWith}
use Rattle.b2_stmt_io.specs.Showing.{shows_bytes, shows_laid}
use Rattle.b2_stmt_io.specs.declared.outlets.Outlet.{Outlet}

pub bytes_refused : (at : Outlet) (r : Result (List ℕ) ℕ) (f : Fault) (o : Outcome) → IsRefused r f → FailsWith f o → planned.Done o ≡ shows_bytes at r
bytes_refused at r (fault.Code code) o is fails = ap planned.Done fails ∙ sym (ap (shows_bytes at) is)
bytes_refused at r fault.NoMemory o is fails = absurd fails

pub layout_refused : (at : Outlet) (r : Result (List ℕ × ℕ) ℕ) (f : Fault) (o : Outcome) → IsRefused r f → FailsWith f o → planned.Done o ≡ shows_laid at r
layout_refused at r (fault.Code code) o is fails = ap planned.Done fails ∙ sym (ap (shows_laid at) is)
layout_refused at r fault.NoMemory o is fails = absurd fails
