-- What comes of the statement at a place, by what each does there: the form that all statements share.
use Rattle.std.specs.Prelude.{ℕ, Bool, List, [], Option, Some, None, is_some, if◌then◌else◌}
use Rattle.b2_base.specs.declared.codes.TheConstants.{S26_PROGRAM_ONLY}
use Rattle.b2_atom.specs.Units.{TreeUnit}
use Rattle.b2_rows.specs.Following.{tree_units}
use Rattle.b2_flow.specs.declared.frame.Place.{Place}
use Rattle.b2_access.specs.Lending.{SeenLent}
use Rattle.b2_access.specs.Placed.{Statement, line_named, statement_placed}
use Rattle.b2_access.specs.declared.planned.Outcome.{Outcome}
use Rattle.b2_access.specs.declared.planned.Outcome.TheVariants as outcome
use Rattle.b2_access.specs.declared.private.Private.{Private}

-- where a statement stands: its place, and the units of its line
pub record Here : Type 0 where
  pub place : Place
  pub units : List TreeUnit

abbrev pub units_on : Option (List ℕ) → List TreeUnit
units_on None = []
units_on (Some line) = tree_units line

abbrev pub here : Place → Private → SeenLent → Here
here p me s = record { place = p; units = units_on (line_named me.immediate s.home.lines p.line) }

-- where no unit stands the program or the immediate line has ended; S26 where a row is refused in a line of the program, or in an
-- immediate line
abbrev pub permitted : {A : Type 0} → (ℕ → Bool → Bool) → (Outcome → A) → (Statement → Here → A) → Statement → Here → A
permitted refused stops does u h = if refused u.row (is_some h.place.line) then stops (outcome.Failed S26_PROGRAM_ONLY) else does u h

abbrev pub dispatch_at : {A : Type 0} → (ℕ → Bool → Bool) → (Outcome → A) → (Statement → Here → A) → Option Statement → Here → A
dispatch_at refused stops does None h = stops outcome.Ready
dispatch_at refused stops does (Some u) h = permitted refused stops does u h

abbrev pub dispatch : {A : Type 0} → (ℕ → Bool → Bool) → (Outcome → A) → (Statement → Here → A) → Option Place → Private → SeenLent → A
dispatch refused stops does None me s = stops outcome.Ready
dispatch refused stops does (Some p) me s = dispatch_at refused stops does (statement_placed p me.immediate s.home.lines) (here p me s)
