-- The law of READ: it takes the literals of a text's DATA in the order of lines and units, each once.
use Rattle.std.specs.Prelude.{◌≡◌, ℕ, zero, suc, true, List, [], ◌∷◌, ◌++◌, take, map, Option, None, Some, Result}
use Rattle.std.specs.List.{All}
use Rattle.std.specs.List.Sorted.{IsStrictlySortedBy}
use Rattle.std.specs.Map.{keys_of}
use Rattle.std.specs.Ordering.{nat_cmp}
use Rattle.b2_dec.specs.declared.values.Value.{Value}
use Rattle.b2_atom.specs.Lines.{is_line}
use Rattle.b2_atom.specs.Tree.{Trees}
use Rattle.b2_atom.specs.Units.{TreeUnit}
use Rattle.b2_rows.specs.Following.{tree_units}
use Rattle.b2_text.specs.Program.{Lines}
use Rattle.b2_text.specs.declared.spots.Spot.{Spot}
use Rattle.b2_stmt_var.specs.Data.{datum_value, literals_of, next_literal}
use Rattle.b2_stmt_var.specs.declared.data.Literal.{Literal}

-- the literals of units in their order, and of all lines of a text
abbrev pub unit_literals : List TreeUnit → List Trees
unit_literals [] = []
unit_literals (u ∷ us) = literals_of u.row u.tree ++ unit_literals us

abbrev pub text_literals : Lines → List Trees
text_literals [] = []
text_literals (l ∷ ls) = unit_literals (tree_units l.1) ++ text_literals ls

-- what receivers take one after another, where READ goes on at a place: at most n values, and fewer where the literals end
abbrev pub values_from : Option Literal → (Option (Spot × ℕ) → List (Result Value ℕ)) → List (Result Value ℕ)
values_from None others = []
values_from (Some l) others = l.value ∷ others (Some l.after)

abbrev pub values_read : Lines → ℕ → Option (Spot × ℕ) → List (Result Value ℕ)
values_read lines zero next = []
values_read lines (suc n) next = values_from (next_literal lines next) (values_read lines n)

-- lines of a program, by ascending numbers
pub record AreLines (lines : Lines) : Type 0 where
  pub ordered : IsStrictlySortedBy nat_cmp (keys_of lines)
  pub spelled : All (λ l. is_line l.1 ≡ true) lines

abbrev pub ReadsInOrder : Type 0
ReadsInOrder = (lines : Lines) (n : ℕ) → AreLines lines → values_read lines n None ≡ take n (map datum_value (text_literals lines))
