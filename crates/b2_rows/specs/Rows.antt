-- Rows of the table that are read at a text of a unit: what their items say of the text, and the tree that they make.
use Rattle.std.specs.Prelude.{◌≡◌, ℕ, List, [], ◌∷◌, Bool, true, false, ◌&&◌, nat_le, length, drop, is_ok, Ok, Err, if◌then◌else◌}
use Rattle.b2_base.specs.Byte as byte
use Rattle.b2_base.specs.Lexical.{first}
use Rattle.b2_atom.specs.Words.{Text}
use Rattle.b2_atom.specs.Tokens.Token.{Coded, Short}
use Rattle.b2_atom.specs.Tree.{Trees, Outcome, also}
use Rattle.b2_atom.specs.Tree.Trees.{Done, Put, In}
use Rattle.b2_atom.specs.Grammar.{is_among, part, starts, many, reader}
use Rattle.b2_atom.specs.Lines.{left_after}
use Rattle.b2_atom.specs.declared.words.Origin.TheVariants.{Atoms}
use Rattle.b2_atom.specs.declared.forms.Start.{Start}
use Rattle.b2_atom.specs.declared.forms.Item.{Item}
use Rattle.b2_atom.specs.declared.forms.Item.TheVariants.{Word, Sign, Among, ProgramWord, Ignored, ShortWord, Comma, LeftOut, End, Typed, Part, Maybe, Either, Many, Nest, Statement}
use Rattle.b2_rows.specs.Leaves.{is_leaf, after_leaf, put_leaf}

-- what the table reads of a row in a unit: the statement that follows a THEN, ELSE or ERROR is a unit of its own
unfoldable pub reading_row : ℕ → Text → Outcome
reading_row n t = part Atoms 0 32 40 n t

abbrev pub tree_of : Outcome → Trees
tree_of (Ok p) = p.0
tree_of (Err e) = Done

-- a text of a unit has at most 256 bytes
abbrev pub fits_unit : Text → Bool
fits_unit t = nat_le (length t) 256

-- whether a row is read at a text of a unit, its tree, and what is left after it
unfoldable pub is_phrase : ℕ → Text → Bool
is_phrase n t = fits_unit t && is_ok (reading_row n t)

unfoldable pub tree_at : ℕ → Text → Trees
tree_at n t = tree_of (reading_row n t)

unfoldable pub after_phrase : ℕ → Text → Text
after_phrase n t = left_after (reading_row n t)

-- a row as often as it begins
unfoldable pub reading_list : Start → ℕ → Text → Outcome
reading_list s n t = many (reader Atoms) s (reading_row n) 256 t

-- whether a repetition is read at a text, its tree, and what is left after it
unfoldable pub is_list : Start → ℕ → Text → Bool
is_list s n t = fits_unit t && is_ok (reading_list s n t)

unfoldable pub list_at : Start → ℕ → Text → Trees
list_at s n t = tree_of (reading_list s n t)

unfoldable pub after_list : Start → ℕ → Text → Text
after_list s n t = left_after (reading_list s n t)

-- one thing or another, by a test
abbrev pub When : Bool → Type 0 → Type 0 → Type 0
When true a b = a
When false a b = b

-- what the items of a row say of a text: which words, signs and leaves stand there, and where each row in it is read; what
-- isn't kept, and a statement that follows, take nothing, and a word that is left out is never read
abbrev pub Stands : List Item → Text → Type 0
Stands [] t = Unit {0}
Stands (Word c ∷ is) t = (first t ≡ c) × Stands is (drop 1 t)
Stands (Sign c code ∷ is) t = (first t ≡ c) × Stands is (drop 1 t)
Stands (Among low high code ∷ is) t = (is_among low high (first t) ≡ true) × Stands is (drop 1 t)
Stands (ProgramWord c ∷ is) t = (first t ≡ c) × Stands is (drop 1 t)
Stands (Ignored c ∷ is) t = Stands is t
Stands (ShortWord c ∷ is) t = (first t ≡ c) × Stands is (drop 1 t)
Stands (Comma ∷ is) t = (first t ≡ byte.comma) × Stands is (drop 1 t)
Stands (LeftOut ∷ is) t = ⊥
Stands (End ∷ is) t = (t ≡ []) × Stands is t
Stands (Typed k code ∷ is) t = (is_leaf k t ≡ true) × Stands is (after_leaf k t)
Stands (Part n ∷ is) t = (is_phrase n t ≡ true) × Stands is (after_phrase n t)
Stands (Nest n ∷ is) t = (is_phrase n t ≡ true) × Stands is (after_phrase n t)
Stands (Maybe s n ∷ is) t = When (starts Atoms s t) ((is_phrase n t ≡ true) × Stands is (after_phrase n t)) (Stands is t)
Stands (Either s n m ∷ is) t =
    When (starts Atoms s t) ((is_phrase n t ≡ true) × Stands is (after_phrase n t)) ((is_phrase m t ≡ true) × Stands is (after_phrase m t))
Stands (Many s n ∷ is) t = (is_list s n t ≡ true) × Stands is (after_list s n t)
Stands (Statement p ∷ is) t = Stands is t

-- the tree that they make
abbrev pub tree_by : List Item → Text → Trees
tree_by [] t = Done
tree_by (Word c ∷ is) t = Put (Coded c) (tree_by is (drop 1 t))
tree_by (Sign c code ∷ is) t = Put (Coded c) (tree_by is (drop 1 t))
tree_by (Among low high code ∷ is) t = Put (Coded (first t)) (tree_by is (drop 1 t))
tree_by (ProgramWord c ∷ is) t = Put (Coded c) (tree_by is (drop 1 t))
tree_by (Ignored c ∷ is) t = tree_by is t
tree_by (ShortWord c ∷ is) t = Put (Short c) (tree_by is (drop 1 t))
tree_by (Comma ∷ is) t = Put (Coded byte.comma) (tree_by is (drop 1 t))
tree_by (LeftOut ∷ is) t = Done
tree_by (End ∷ is) t = tree_by is t
tree_by (Typed k code ∷ is) t = put_leaf k t (tree_by is (after_leaf k t))
tree_by (Part n ∷ is) t = In 2 (tree_at n t) (tree_by is (after_phrase n t))
tree_by (Nest n ∷ is) t = In 2 (tree_at n t) (tree_by is (after_phrase n t))
tree_by (Maybe s n ∷ is) t = if starts Atoms s t then In 1 (tree_at n t) (tree_by is (after_phrase n t)) else In 0 Done (tree_by is t)
tree_by (Either s n m ∷ is) t = if starts Atoms s t then In 1 (tree_at n t) (tree_by is (after_phrase n t)) else In 0 (tree_at m t) (tree_by is (after_phrase m t))
tree_by (Many s n ∷ is) t = also (list_at s n t) (tree_by is (after_list s n t))
tree_by (Statement p ∷ is) t = tree_by is t

-- what is left after them
abbrev pub rest_by : List Item → Text → Text
rest_by [] t = t
rest_by (Word c ∷ is) t = rest_by is (drop 1 t)
rest_by (Sign c code ∷ is) t = rest_by is (drop 1 t)
rest_by (Among low high code ∷ is) t = rest_by is (drop 1 t)
rest_by (ProgramWord c ∷ is) t = rest_by is (drop 1 t)
rest_by (Ignored c ∷ is) t = rest_by is t
rest_by (ShortWord c ∷ is) t = rest_by is (drop 1 t)
rest_by (Comma ∷ is) t = rest_by is (drop 1 t)
rest_by (LeftOut ∷ is) t = []
rest_by (End ∷ is) t = rest_by is t
rest_by (Typed k code ∷ is) t = rest_by is (after_leaf k t)
rest_by (Part n ∷ is) t = rest_by is (after_phrase n t)
rest_by (Nest n ∷ is) t = rest_by is (after_phrase n t)
rest_by (Maybe s n ∷ is) t = if starts Atoms s t then rest_by is (after_phrase n t) else rest_by is t
rest_by (Either s n m ∷ is) t = if starts Atoms s t then rest_by is (after_phrase n t) else rest_by is (after_phrase m t)
rest_by (Many s n ∷ is) t = rest_by is (after_list s n t)
rest_by (Statement p ∷ is) t = rest_by is t

-- a row that is read stands item by item, makes that tree, and leaves that rest
pub record RowStands (n : ℕ) (is : List Item) (t : Text) : Type 0 where
  pub stands : Stands is t
  pub tree : tree_at n t ≡ tree_by is t
  pub rest : after_phrase n t ≡ rest_by is t

-- a repetition that goes on: its row is read, and what is left is the same repetition
pub record Goes (s : Start) (n : ℕ) (t : Text) : Type 0 where
  pub part : is_phrase n t ≡ true
  pub list : is_list s n (after_phrase n t) ≡ true
  pub tree : list_at s n t ≡ In 1 (tree_at n t) (list_at s n (after_phrase n t))
  pub rest : after_list s n t ≡ after_list s n (after_phrase n t)

-- one that ends
pub record Ends (s : Start) (n : ℕ) (t : Text) : Type 0 where
  pub tree : list_at s n t ≡ In 0 Done Done
  pub rest : after_list s n t ≡ t
