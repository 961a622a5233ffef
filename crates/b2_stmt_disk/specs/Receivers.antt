-- Numeric receivers with a separator between them, at a text of a unit.
use Rattle.std.specs.Prelude.{◌≡◌, ℕ, zero, suc, ◌==◌, Bool, true, List, [], ◌∷◌, drop}
use Rattle.b2_base.specs.Byte as byte
use Rattle.b2_base.specs.Lexical.{first}
use Rattle.b2_atom.specs.Tree.{Trees}
use Rattle.b2_atom.specs.Words.{Text}
use Rattle.b2_atom.specs.declared.rows.TheConstants as row
use Rattle.b2_rows.specs.Rows.{after_phrase, is_phrase, tree_at}

abbrev pub next_receiver : Text → Text
next_receiver t = drop 1 (after_phrase row.NUMERIC_RECEIVER t)

-- n of them stand there, and their trees
abbrev pub AreReceivers : ℕ → Text → Type 0
AreReceivers zero t = Unit {0}
AreReceivers (suc n) t = (is_phrase row.NUMERIC_RECEIVER t ≡ true) × AreReceivers n (next_receiver t)

abbrev pub receivers_at : ℕ → Text → List Trees
receivers_at zero t = []
receivers_at (suc n) t = tree_at row.NUMERIC_RECEIVER t ∷ receivers_at n (next_receiver t)

-- whether a comma stands after three of them
abbrev pub is_fourth_after : Text → Bool
is_fourth_after t = first (after_phrase row.NUMERIC_RECEIVER (next_receiver (next_receiver t))) == byte.comma
