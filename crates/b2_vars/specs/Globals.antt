-- The `@` variables, as a statement sees them.
use Rattle.std.specs.Prelude.{◌≡◌, Bool, false, Option, None, is_some}
use Rattle.b2_vars.specs.Tables.{VarsState}

-- those that are lent, where there are such, and whether a receiver among them was reached
pub record Globals : Type 0 where
  pub vars : Option VarsState
  pub reached : Bool

-- none of their receivers was reached yet
abbrev pub unreached : Option VarsState → Globals
unreached vars = record { vars = vars; reached = false }

-- WHAT MAY BECOME OF THEM: where no receiver was reached they are as they were, and so they are where there are none; where there are
-- some, some are left
pub record MayBecome (before after : Globals) : Type 0 where
  pub unreached : after.reached ≡ false → after ≡ before
  pub absent : before.vars ≡ None → after ≡ before
  pub there : is_some after.vars ≡ is_some before.vars
