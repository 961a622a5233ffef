-- How a statement that asks for an access, or refuses with a code, may want memory.
use Rattle.std.specs.Prelude.{◌≡◌, ℕ, Result, Ok, Err}
use Rattle.b2_base.specs.Refusals.{IsRefused}
use Rattle.b2_base.specs.declared.codes.Fault.{Fault}
use Rattle.b2_access.specs.declared.accesses.Access.{Access}

-- an access, or a code
abbrev pub GivesAccess : Result Access ℕ → Result Access Fault → Type 0
GivesAccess answer (Ok a) = answer ≡ Ok a
GivesAccess answer (Err f) = IsRefused answer f
