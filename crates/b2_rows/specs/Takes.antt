-- Which rows take at least one byte of a text, whatever stands in it.
use Rattle.std.specs.Prelude.{ℕ, zero, suc, ◌&&◌, ◌||◌, nat_lt, Bool, true, false, List, [], ◌∷◌}
use Rattle.b2_atom.specs.Grammar.{row_items}
use Rattle.b2_atom.specs.declared.forms.Leaf.{Leaf}
use Rattle.b2_atom.specs.declared.forms.Leaf.TheVariants as leaf
use Rattle.b2_atom.specs.declared.forms.Item.{Item}
use Rattle.b2_atom.specs.declared.forms.Item.TheVariants.{Word, Sign, Among, ProgramWord, Ignored, ShortWord, Comma, LeftOut, End, Typed, Part, Maybe, Either, Many, Nest, Statement}

abbrev pub leaf_takes : Leaf → Bool
leaf_takes leaf.Text = false
leaf_takes k = true

-- whether some of the items takes a byte, where it is known of the rows in it
abbrev pub items_take : (ℕ → Bool) → List Item → Bool
items_take row [] = false
items_take row (Word c ∷ is) = nat_lt 0 c || items_take row is
items_take row (Sign c code ∷ is) = nat_lt 0 c || items_take row is
items_take row (Among low high code ∷ is) = nat_lt 0 low || items_take row is
items_take row (ProgramWord c ∷ is) = nat_lt 0 c || items_take row is
items_take row (Ignored c ∷ is) = items_take row is
items_take row (ShortWord c ∷ is) = nat_lt 0 c || items_take row is
items_take row (Comma ∷ is) = true
items_take row (LeftOut ∷ is) = true
items_take row (End ∷ is) = items_take row is
items_take row (Typed k code ∷ is) = leaf_takes k || items_take row is
items_take row (Part n ∷ is) = row n || items_take row is
items_take row (Nest n ∷ is) = row n || items_take row is
items_take row (Maybe s n ∷ is) = items_take row is
items_take row (Either s n m ∷ is) = (row n && row m) || items_take row is
items_take row (Many s n ∷ is) = items_take row is
items_take row (Statement p ∷ is) = items_take row is

-- whether a row does, by the rows in it, at most k levels down
abbrev pub row_takes : ℕ → ℕ → Bool
row_takes zero n = false
row_takes (suc k) n = items_take (row_takes k) (row_items n)

-- a row that takes a byte of each text at which it is read
unfoldable pub takes_byte : ℕ → Bool
takes_byte n = row_takes 40 n
