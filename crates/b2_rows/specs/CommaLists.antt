-- Lists with commas, by their trees, and lists of receivers at a text of a unit.
use Rattle.std.specs.Prelude.{Bool, List, [], ◌∷◌}
use Rattle.b2_base.specs.Byte as byte
use Rattle.b2_atom.specs.Words.{Text}
use Rattle.b2_atom.specs.Tree.{Trees, also}
use Rattle.b2_atom.specs.Tree.Trees.{Done, Put, In}
use Rattle.b2_atom.specs.declared.forms.Start.{Start}
use Rattle.b2_atom.specs.declared.forms.Start.TheVariants as start
use Rattle.b2_atom.specs.declared.rows.TheConstants as row
use Rattle.b2_rows.specs.Rows.{tree_at, after_phrase, is_list, list_at}

-- further items stand where commas do
abbrev pub commas : Start
commas = start.Code byte.comma

-- the items after the first of a list with commas
abbrev pub further_listed : Trees → List Trees
further_listed (In n (Put comma (In m item end)) more) = item ∷ further_listed more
further_listed t = []

-- what stands after them
abbrev pub after_further_listed : Trees → Trees
after_further_listed (In n (Put comma item) more) = after_further_listed more
after_further_listed (In n Done more) = more
after_further_listed t = Done

-- all items, and what stands after all
abbrev pub all_listed : Trees → List Trees
all_listed (In n item more) = item ∷ further_listed more
all_listed t = []

abbrev pub after_all_listed : Trees → Trees
after_all_listed (In n item more) = after_further_listed more
after_all_listed t = Done

-- what stands after the first receiver at a text, and whether further ones stand at a text
abbrev pub past_first : Text → Text
past_first t = after_phrase row.RECEIVER t

abbrev pub are_others : Text → Bool
are_others t = is_list commas row.COMMA_RECEIVER t

-- those further ones
abbrev pub others_at : Text → List Trees
others_at t = further_listed (also (list_at commas row.COMMA_RECEIVER t) Done)

-- and all receivers
abbrev pub receivers_at : Text → List Trees
receivers_at t = tree_at row.RECEIVER t ∷ others_at (past_first t)
