-- What follows an operator: the tree of a further item, an operator and the item, wherever such items are repeated.
use Rattle.std.specs.Prelude.{◌≡◌, ◌<◌, ℕ, true, length, drop}
use Rattle.b2_base.specs.Lexical.{first}
use Rattle.b2_atom.specs.Words.{Text}
use Rattle.b2_atom.specs.Tokens.{Token}
use Rattle.b2_atom.specs.Tokens.Token.{Coded, Short, Plain, Lined}
use Rattle.b2_atom.specs.Tree.{Trees}
use Rattle.b2_atom.specs.Tree.Trees.{Done, Put, In}
use Rattle.b2_atom.specs.declared.forms.Start.{Start}
use Rattle.b2_rows.specs.Rows.{is_phrase, tree_at, after_phrase, is_list, list_at, after_list}

-- the word or sign of a token, and 0 of what is typed by hand
abbrev pub token_code : Token → ℕ
token_code (Coded c) = c
token_code (Short c) = c
token_code (Plain k w) = 0
token_code (Lined high low) = 0

-- the word or sign that a tree begins with, and 0 where it begins with none
abbrev pub first_code : Trees → ℕ
first_code Done = 0
first_code (Put token more) = token_code token
first_code (In n a more) = first_code a

-- a tree that is the operator c, by itself or as a row of one, and the item a
abbrev pub IsLink : ℕ → Trees → Trees → Type 0
IsLink c a (Put token (In n b Done)) = (token_code token ≡ c) × ((n ≡ 2) × (b ≡ a))
IsLink c a (In k o (In n b Done)) = (first_code o ≡ c) × ((n ≡ 2) × (b ≡ a))
IsLink c a t = ⊥

-- a row that is read as one operator at the front and an item after it
pub record Linked (more item : ℕ) (t : Text) : Type 0 where
  pub part : is_phrase item (drop 1 t) ≡ true
  pub link : IsLink (first t) (tree_at item (drop 1 t)) (tree_at more t)
  pub rest : after_phrase more t ≡ after_phrase item (drop 1 t)
  pub shorter : length (drop 1 t) < length t

-- a repetition of such a row that goes on
pub record Further (s : Start) (more item : ℕ) (t : Text) : Type 0 where
  pub part : is_phrase item (drop 1 t) ≡ true
  pub list : is_list s more (after_phrase item (drop 1 t)) ≡ true
  pub tree : list_at s more t ≡ In 1 (tree_at more t) (list_at s more (after_phrase item (drop 1 t)))
  pub link : IsLink (first t) (tree_at item (drop 1 t)) (tree_at more t)
  pub rest : after_list s more t ≡ after_list s more (after_phrase item (drop 1 t))
  pub shorter : length (after_phrase item (drop 1 t)) < length t
