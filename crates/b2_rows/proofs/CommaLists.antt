-- Lists with commas: an item after a comma, as long as commas stand there.
use Rattle.std.proofs.Common.{◌≡◌, ◌<◌, ℕ, ◌==◌, Bool, true, false, [], ◌∷◌, length, drop, ap, subst, ◌∙◌, arith}
use Rattle.b2_base.specs.Byte as byte
use Rattle.b2_base.specs.Lexical.{first}
use Rattle.b2_atom.specs.Words.{Text}
use Rattle.b2_atom.specs.Tokens.Token.{Coded}
use Rattle.b2_atom.specs.Tree.{Trees, also}
use Rattle.b2_atom.specs.Tree.Trees.{Done, Put, In}
use Rattle.b2_atom.specs.Grammar.{row_items, starts}
use Rattle.b2_atom.specs.declared.words.Origin.TheVariants.{Atoms}
use Rattle.b2_atom.specs.declared.forms.Item.TheVariants.{Sign, Part}
use Rattle.b2_rows.specs.Rows.{is_phrase, tree_at, after_phrase, is_list, list_at, after_list, Ends}
use Rattle.b2_rows.proofs.Lists.{goes, ended}
use Rattle.b2_rows.proofs.Levels.{part_no_longer}
use Rattle.b2_rows.proofs.RowsRead.{stands_of}
use Rattle.b2_rows.specs.CommaLists.{commas, further_listed, after_further_listed}

-- a row that is a comma and an item
abbrev pub IsComma : ℕ → ℕ → ℕ → Type 0
IsComma more item code = row_items more ≡ Sign byte.comma code ∷ Part item ∷ []

pub record Other (more item : ℕ) (t : Text) : Type 0 where
  pub part : is_phrase item (drop 1 t) ≡ true
  pub list : is_list commas more (after_phrase item (drop 1 t)) ≡ true
  pub tree : list_at commas more t ≡ In 1 (Put (Coded byte.comma) (In 2 (tree_at item (drop 1 t)) Done)) (list_at commas more (after_phrase item (drop 1 t)))
  pub rest : after_list commas more t ≡ after_list commas more (after_phrase item (drop 1 t))

comma_starts : (t : Text) (b : Bool) → (first t == byte.comma) ≡ b → starts Atoms commas t ≡ b
unfolding starts
comma_starts t b is = is

pub other : (more item code : ℕ) (t : Text) → IsComma more item code → is_list commas more t ≡ true → (first t == byte.comma) ≡ true → Other more item t
other more item code t is_row ok is =
    let g = goes commas more t ok (comma_starts t true is) in
    let r = stands_of more (Sign byte.comma code ∷ Part item ∷ []) t is_row g.part in
    record {
      part = r.0.1.0;
      list = subst (λ (u : Text). is_list commas more u ≡ true) r.2 g.list;
      tree = g.tree ∙ ap (λ (a : Trees). In 1 a (list_at commas more (after_phrase more t))) r.1 ∙ ap (λ (u : Text). In 1 (Put (Coded byte.comma) (In 2 (tree_at item (drop 1 t)) Done)) (list_at commas more u)) r.2;
      rest = g.rest ∙ ap (after_list commas more) r.2;
    }

pub no_other : (more : ℕ) (t : Text) → (first t == byte.comma) ≡ false → Ends commas more t
no_other more t is = ended commas more t (comma_starts t false is)

-- with what stands after all of them
abbrev pub tail_at : ℕ → Trees → Text → Trees
tail_at more e t = also (list_at commas more t) e

pub items_of_other : (more item code : ℕ) (e : Trees) (t : Text) → IsComma more item code → is_list commas more t ≡ true → (first t == byte.comma) ≡ true
    → further_listed (tail_at more e t) ≡ tree_at item (drop 1 t) ∷ further_listed (tail_at more e (after_phrase item (drop 1 t)))
items_of_other more item code e t is_row ok is = ap (λ (a : Trees). further_listed (also a e)) (Other.tree (other more item code t is_row ok is))

pub end_of_other : (more item code : ℕ) (e : Trees) (t : Text) → IsComma more item code → is_list commas more t ≡ true → (first t == byte.comma) ≡ true
    → after_further_listed (tail_at more e t) ≡ after_further_listed (tail_at more e (after_phrase item (drop 1 t)))
end_of_other more item code e t is_row ok is = ap (λ (a : Trees). after_further_listed (also a e)) (Other.tree (other more item code t is_row ok is))

pub no_items_left : (more : ℕ) (e : Trees) (t : Text) → (first t == byte.comma) ≡ false → further_listed (tail_at more e t) ≡ []
no_items_left more e t is = ap (λ (a : Trees). further_listed (also a e)) (Ends.tree (no_other more t is))

pub end_left : (more : ℕ) (e : Trees) (t : Text) → (first t == byte.comma) ≡ false → after_further_listed (tail_at more e t) ≡ e
end_left more e t is = ap (λ (a : Trees). after_further_listed (also a e)) (Ends.tree (no_other more t is))

comma_shorter : (t : Text) → (first t == byte.comma) ≡ true → length (drop 1 t) < length t
comma_shorter [] is = cc
comma_shorter (b ∷ t) is = omega arith

pub other_shorter : (item : ℕ) (t : Text) → (first t == byte.comma) ≡ true → length (after_phrase item (drop 1 t)) < length t
other_shorter item t is = let e = part_no_longer item (drop 1 t) in let f = comma_shorter t is in omega (arith, e, f)

pub item_shorter : (item : ℕ) (t : Text) → (first (after_phrase item t) == byte.comma) ≡ true → length (drop 1 (after_phrase item t)) < length t
item_shorter item t is = let e = part_no_longer item t in let f = comma_shorter (after_phrase item t) is in omega (arith, e, f)
