-- What an assignment leaves, and what a statement does.
use Rattle.std.specs.Prelude.{ℕ, Option}
use Rattle.b2_vars.specs.Globals.{Globals}
use Rattle.b2_vars.specs.Tables.{VarsState}

-- the variables, and its code where it ends with one
pub record Assigned : Type 0 where
  pub vars : VarsState
  pub code : Option ℕ

-- a partition's own variables, the `@` variables, and its code where it ends with one
pub record Changed : Type 0 where
  pub own : VarsState
  pub globals : Globals
  pub code : Option ℕ
