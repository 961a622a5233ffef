-- A row that may be left out, at a text of a unit.
use Rattle.std.specs.Prelude.{ℕ, Bool, true, if◌then◌else◌}
use Rattle.b2_atom.specs.Words.{Text}
use Rattle.b2_atom.specs.Tree.{Trees}
use Rattle.b2_atom.specs.Tree.Trees.{Done, In}
use Rattle.b2_atom.specs.Grammar.{starts}
use Rattle.b2_atom.specs.declared.words.Origin.TheVariants.{Atoms}
use Rattle.b2_atom.specs.declared.forms.Start.{Start}
use Rattle.b2_rows.specs.Rows.{is_phrase, tree_at, after_phrase}

-- whether it is read where it begins
unfoldable pub maybe_phrase : Start → ℕ → Text → Bool
maybe_phrase s n t = if starts Atoms s t then is_phrase n t else true

-- its tree, as a branch, or an empty branch
unfoldable pub maybe_tree : Start → ℕ → Text → Trees
maybe_tree s n t = if starts Atoms s t then In 1 (tree_at n t) Done else In 0 Done Done

-- what is left after it
unfoldable pub after_maybe : Start → ℕ → Text → Text
after_maybe s n t = if starts Atoms s t then after_phrase n t else t
