-- A statement of a line where it was found, with the texts that it sees.
use Rattle.std.specs.Prelude.{◌≡◌, ◌<◌, true, Option, Some, is_some}
use Rattle.b2_rows.specs.Following.{tree_units}
use Rattle.b2_rows.specs.Laws.{IsRow}
use Rattle.b2_rows.specs.Rows.{tree_at}
use Rattle.b2_text.specs.Program.{Lines}
use Rattle.b2_vars.specs.Globals.{Globals}
use Rattle.b2_access.specs.Dispatch.{Here}
use Rattle.b2_access.specs.Lending.{SeenLent}
use Rattle.b2_access.specs.Placed.{Statement, line_named, statement_on}
use Rattle.b2_access.specs.declared.placed.Found.{Found}
use Rattle.b2_access.specs.declared.private.Private.{Private}

-- by its row and its tree
abbrev pub statement_found : Found → Statement
statement_found f = record { row = f.unit.now.row; tree = tree_at f.unit.now.row f.unit.now.bytes.now }

-- its place, and the units of its line
abbrev pub here_found : Found → Here
here_found f = record { place = f.place; units = tree_units f.line.now }

-- what it sees, with some `@` variables
abbrev pub seen_found : Found → Globals → SeenLent
seen_found f globals = record { own = f.own.now; home = f.home.now; globals = globals }

-- its row is read at its bytes
abbrev pub HasRow : Found → Type 0
HasRow f = IsRow f.unit.now.row f.unit.now.bytes.now (tree_at f.unit.now.row f.unit.now.bytes.now)

-- so it is, and a unit can follow it
pub record IsRead (f : Found) : Type 0 where
  pub row : HasRow f
  pub few : f.place.unit < 255

-- it was found at the place of a partition, in a line of the program at home
pub record IsFound (f : Found) (home : Lines) (me : Private) : Type 0 where
  pub stands : me.place ≡ Some f.place
  pub program : is_some f.place.line ≡ true
  pub line : line_named me.immediate home f.place.line ≡ Some f.line.now
  pub statement : Some (statement_found f) ≡ statement_on (Some f.line.now) f.place.unit
  pub read : IsRead f
