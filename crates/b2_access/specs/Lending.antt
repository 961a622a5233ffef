-- What a partition is lent, as its statements see it.
use Rattle.std.specs.Prelude.{Some, None, if◌then◌else◌}
use Rattle.b2_text.specs.Program.{TextState}
use Rattle.b2_vars.specs.Globals.{Globals}
use Rattle.b2_access.specs.declared.lending.Lent.{Lent}

-- the `@` variables, where there are such, and whether a receiver among them was reached
abbrev pub globals_lent : Lent → Globals
globals_lent lent = record { vars = if lent.found then Some lent.globals.now else None; reached = lent.reached }

pub record SeenLent : Type 0 where
  pub own : TextState
  pub home : TextState
  pub globals : Globals

abbrev pub seen_lent : Lent → SeenLent
seen_lent lent = record { own = lent.own.now; home = lent.home.now; globals = globals_lent lent }
