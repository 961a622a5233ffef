-- The numbers that MAX and MIN take after the first, each after a comma.
use Rattle.std.specs.Prelude.{ℕ, zero, suc, ◌==◌, ◌&&◌, Bool, true, drop, if◌then◌else◌}
use Rattle.b2_base.specs.Byte as byte
use Rattle.b2_base.specs.Lexical.{first}
use Rattle.b2_atom.specs.Words.{Text}
use Rattle.b2_atom.specs.Tokens.Token.{Coded}
use Rattle.b2_atom.specs.Tree.{Trees}
use Rattle.b2_atom.specs.Tree.Trees.{Done, Put, In}
use Rattle.b2_atom.specs.declared.rows.TheConstants as row
use Rattle.b2_rows.specs.Rows.{is_phrase, tree_at, after_phrase}

-- whether numbers stand at a text as long as commas do, at most k of them
unfoldable pub are_further : ℕ → Text → Bool
are_further zero t = true
are_further (suc k) t = if first t == byte.comma then is_phrase row.SUM (drop 1 t) && are_further k (after_phrase row.SUM (drop 1 t)) else true

-- their tree
unfoldable pub further_tree : ℕ → Text → Trees
further_tree zero t = Done
further_tree (suc k) t =
    if first t == byte.comma then Put (Coded byte.comma) (In 2 (tree_at row.SUM (drop 1 t)) (further_tree k (after_phrase row.SUM (drop 1 t)))) else Done

-- what is left after them
unfoldable pub after_further : ℕ → Text → Text
after_further zero t = t
after_further (suc k) t = if first t == byte.comma then after_further k (after_phrase row.SUM (drop 1 t)) else t
