-- A row that is read, with its items.
use Rattle.std.proofs.Common.{◌≡◌, ◌<◌, ◌≤◌, ◌&&◌, nat_lt, Bool, ℕ, suc, true, false, List, [], ◌∷◌, length, drop, arith, refl}
use Rattle.std.proofs.lemmas.Bool.Decides.{nat_tests}
use Rattle.b2_atom.specs.Words.{Text}
use Rattle.b2_base.specs.Lexical.{first}
use Rattle.b2_atom.specs.Grammar.{row_items, is_among}
use Rattle.b2_atom.specs.declared.forms.Item.{Item}
use Rattle.b2_rows.specs.Rows.{is_phrase, tree_at, after_phrase, Stands, tree_by, rest_by, RowStands}
use Rattle.b2_rows.proofs.Standing.{row_stands}
use Rattle.b2_rows.proofs.Levels.{short_of}

-- how its items stand, its tree, and what is left after it
pub stands_of : (n : ℕ) (is : List Item) (t : Text) → row_items n ≡ is → is_phrase n t ≡ true → Stands is t × (tree_at n t ≡ tree_by is t) × (after_phrase n t ≡ rest_by is t)
stands_of n is t same ok = let r = row_stands n is t same ok in (RowStands.stands r, RowStands.tree r, RowStands.rest r)

-- where a word or a sign stands, the text goes on after it
pub shorter_at : (t : Text) (c : ℕ) → first t ≡ suc c → length (drop 1 t) < length t
shorter_at [] c h = absurd (omega (arith, h))
shorter_at (b ∷ t) c h = omega arith

none_among : (low high : ℕ) → nat_lt 0 low ≡ true → is_among low high 0 ≡ true → ⊥
none_among low high some h = grind (arith, nat_tests)

pub shorter_among : (low high : ℕ) (t : Text) → nat_lt 0 low ≡ true → is_among low high (first t) ≡ true → length (drop 1 t) < length t
shorter_among low high [] some h = absurd (none_among low high some h)
shorter_among low high (b ∷ t) some h = omega arith

-- a text at which a row is read has at most 256 bytes
first_of_both : (a b : Bool) → (a && b) ≡ true → a ≡ true
first_of_both true b h = refl
first_of_both false b h = cc

pub part_short : (n : ℕ) (t : Text) → is_phrase n t ≡ true → length t ≤ 256
unfolding is_phrase
part_short n t ok = short_of t (first_of_both _ _ ok)
