-- The statement at a place, by its row and its tree.
use Rattle.std.specs.Prelude.{ℕ, List, Option, Some, None, slice_get, option_map}
use Rattle.b2_atom.specs.Tree.{Trees}
use Rattle.b2_atom.specs.Units.{TreeUnit}
use Rattle.b2_rows.specs.Following.{tree_units}
use Rattle.b2_flow.specs.declared.frame.Place.{Place}
use Rattle.b2_text.specs.Program.{Lines, line_at}

pub record Statement : Type 0 where
  pub row : ℕ
  pub tree : Trees

abbrev pub statement_of : TreeUnit → Statement
statement_of u = record { row = u.row; tree = u.tree }

-- the k-th statement of a line
abbrev pub statement_on : Option (List ℕ) → ℕ → Option Statement
statement_on None k = None
statement_on (Some line) k = option_map statement_of (slice_get (tree_units line) k)

-- the line of a place: one of the text at home, or the immediate line
abbrev pub line_named : Option (List ℕ) → Lines → Option ℕ → Option (List ℕ)
line_named immediate home None = immediate
line_named immediate home (Some n) = line_at n home

abbrev pub statement_placed : Place → Option (List ℕ) → Lines → Option Statement
statement_placed p immediate home = statement_on (line_named immediate home p.line) p.unit
