-- Lists of devices by their rows: each goes on by a comma and a device, up to the fourth.
use Rattle.std.proofs.Common.{◌≡◌, ℕ, ◌==◌, Bool, true, false, List, [], ◌∷◌, ◌++◌, drop, refl, ap, subst, sym, ◌∙◌}
use Rattle.b2_base.specs.Byte as byte
use Rattle.b2_base.specs.Lexical.{first}
use Rattle.b2_base.specs.declared.codes.TheConstants.{S13_SEPARATOR}
use Rattle.b2_atom.specs.Words.{Text}
use Rattle.b2_atom.specs.Tokens.Token.{Coded}
use Rattle.b2_atom.specs.Tree.{Trees}
use Rattle.b2_atom.specs.Tree.Trees.{Done, Put, In}
use Rattle.b2_atom.specs.Grammar.{row_items, starts}
use Rattle.b2_atom.specs.declared.words.Origin.TheVariants.{Atoms}
use Rattle.b2_atom.specs.declared.rows.TheConstants as row
use Rattle.b2_atom.specs.declared.forms.Start.TheVariants as start
use Rattle.b2_atom.specs.declared.forms.Leaf.TheVariants as leaf
use Rattle.b2_atom.specs.declared.forms.Item.{Item}
use Rattle.b2_atom.specs.declared.forms.Item.TheVariants.{Sign, Part, Maybe}
use Rattle.b2_rows.specs.Leaves.{is_leaf, leaf_bytes}
use Rattle.b2_rows.specs.Rows.{is_phrase, tree_at, after_phrase}
use Rattle.b2_rows.specs.Optional.{maybe_phrase, maybe_tree}
use Rattle.b2_rows.proofs.Optional.{maybe_stands, begun_part, begun_tree, left_out_tree}
use Rattle.b2_rows.proofs.RowsRead.{stands_of}
use Rattle.std.proofs.lemmas.List.{append-nil, append_assoc}
use Rattle.b2_drive.proofs.DriveRows.{address_here, address_is, after_device}
use Rattle.b2_stmt_disk.specs.devices.Lists.{devices_in, more_devices}

comma_starts : (t : Text) (b : Bool) → (first t == byte.comma) ≡ b → starts Atoms (start.Code byte.comma) t ≡ b
unfolding starts
comma_starts t b is = is

-- what may follow by a comma
abbrev Follows : ℕ → Text → Type 0
Follows n t = maybe_phrase (start.Code byte.comma) n t ≡ true

abbrev followed_by : ℕ → Text → Trees
followed_by n t = maybe_tree (start.Code byte.comma) n t

list_ends : (n : ℕ) (t : Text) → (first t == byte.comma) ≡ false → more_devices (maybe_tree (start.Code byte.comma) n t) ≡ []
list_ends n t is = ap more_devices (left_out_tree (start.Code byte.comma) n t (comma_starts t false is))

pub no_second : (t : Text) → (first t == byte.comma) ≡ false → more_devices (maybe_tree (start.Code byte.comma) row.COMMA_DEVICE_2 t) ≡ []
no_second t is = list_ends row.COMMA_DEVICE_2 t is

pub no_third : (t : Text) → (first t == byte.comma) ≡ false → more_devices (maybe_tree (start.Code byte.comma) row.COMMA_DEVICE_3 t) ≡ []
no_third t is = list_ends row.COMMA_DEVICE_3 t is

pub no_fourth : (t : Text) → (first t == byte.comma) ≡ false → more_devices (maybe_tree (start.Code byte.comma) row.COMMA_DEVICE_4 t) ≡ []
no_fourth t is = list_ends row.COMMA_DEVICE_4 t is

-- after the first, the second and the third one more may follow
abbrev more_items : ℕ → List Item
more_items m = Sign byte.comma S13_SEPARATOR ∷ Part row.DEVICE ∷ Maybe (start.Code byte.comma) m ∷ []

abbrev past : Text → Text
past t = drop 3 (drop 1 t)

module _ (n m : ℕ) (is : row_items n ≡ more_items m) where
  begun : (t : Text) → Follows n t → (first t == byte.comma) ≡ true → is_phrase n t ≡ true
  begun t ok c = begun_part (start.Code byte.comma) n t ok (comma_starts t true c)

  device_next : (t : Text) → Follows n t → (first t == byte.comma) ≡ true → is_phrase row.DEVICE (drop 1 t) ≡ true
  device_next t ok c = (stands_of n (more_items m) t is (begun t ok c)).0.1.0

  address_next : (t : Text) → Follows n t → (first t == byte.comma) ≡ true → is_leaf leaf.Address (drop 1 (drop 1 t)) ≡ true
  address_next t ok c = address_here (drop 1 t) (device_next t ok c)

  rest_next : (t : Text) → Follows n t → (first t == byte.comma) ≡ true → Follows m (past (drop 1 t))
  rest_next t ok c =
      subst (λ (u : Text). Follows m u) (after_device (drop 1 t) (device_next t ok c))
      (maybe_stands (start.Code byte.comma) m (after_phrase row.DEVICE (drop 1 t)) (stands_of n (more_items m) t is (begun t ok c)).0.1.1)

  tree_next : (t : Text) → Follows n t → (first t == byte.comma) ≡ true
      → tree_at n t ≡ Put (Coded byte.comma) (In 2 (tree_at row.DEVICE (drop 1 t)) (followed_by m (after_phrase row.DEVICE (drop 1 t))))
  unfolding maybe_tree
  tree_next t ok c = (stands_of n (more_items m) t is (begun t ok c)).1

  more_next : (t : Text) → Follows n t → (first t == byte.comma) ≡ true → more_devices (followed_by n t) ≡ leaf_bytes leaf.Address (drop 1 (drop 1 t)) ∷ more_devices (followed_by m (past (drop 1 t)))
  more_next t ok c =
      ap more_devices (begun_tree (start.Code byte.comma) n t (comma_starts t true c))
      ∙ ap (λ (a : Trees). more_devices (In 1 a Done)) (tree_next t ok c)
      ∙ ap (λ (x : List ℕ). x ∷ more_devices (followed_by m (after_phrase row.DEVICE (drop 1 t)))) (address_is (drop 1 t) (device_next t ok c))
      ∙ ap (λ (u : Text). leaf_bytes leaf.Address (drop 1 (drop 1 t)) ∷ more_devices (followed_by m u)) (after_device (drop 1 t) (device_next t ok c))

second_row : row_items row.COMMA_DEVICE_2 ≡ more_items row.COMMA_DEVICE_3
unfolding row_items
second_row = refl

third_row : row_items row.COMMA_DEVICE_3 ≡ more_items row.COMMA_DEVICE_4
unfolding row_items
third_row = refl

pub second_address : (t : Text) → maybe_phrase (start.Code byte.comma) row.COMMA_DEVICE_2 t ≡ true → (first t == byte.comma) ≡ true → is_leaf leaf.Address (drop 1 (drop 1 t)) ≡ true
second_address t ok c = address_next row.COMMA_DEVICE_2 row.COMMA_DEVICE_3 second_row t ok c

pub second_rest : (t : Text) → maybe_phrase (start.Code byte.comma) row.COMMA_DEVICE_2 t ≡ true → (first t == byte.comma) ≡ true → maybe_phrase (start.Code byte.comma) row.COMMA_DEVICE_3 (drop 3 (drop 1 (drop 1 t))) ≡ true
second_rest t ok c = rest_next row.COMMA_DEVICE_2 row.COMMA_DEVICE_3 second_row t ok c

pub second_is : (t : Text) → maybe_phrase (start.Code byte.comma) row.COMMA_DEVICE_2 t ≡ true → (first t == byte.comma) ≡ true
    → more_devices (maybe_tree (start.Code byte.comma) row.COMMA_DEVICE_2 t) ≡ leaf_bytes leaf.Address (drop 1 (drop 1 t)) ∷ more_devices (maybe_tree (start.Code byte.comma) row.COMMA_DEVICE_3 (drop 3 (drop 1 (drop 1 t))))
second_is t ok c = more_next row.COMMA_DEVICE_2 row.COMMA_DEVICE_3 second_row t ok c

pub third_address : (t : Text) → maybe_phrase (start.Code byte.comma) row.COMMA_DEVICE_3 t ≡ true → (first t == byte.comma) ≡ true → is_leaf leaf.Address (drop 1 (drop 1 t)) ≡ true
third_address t ok c = address_next row.COMMA_DEVICE_3 row.COMMA_DEVICE_4 third_row t ok c

pub third_rest : (t : Text) → maybe_phrase (start.Code byte.comma) row.COMMA_DEVICE_3 t ≡ true → (first t == byte.comma) ≡ true → maybe_phrase (start.Code byte.comma) row.COMMA_DEVICE_4 (drop 3 (drop 1 (drop 1 t))) ≡ true
third_rest t ok c = rest_next row.COMMA_DEVICE_3 row.COMMA_DEVICE_4 third_row t ok c

pub third_is : (t : Text) → maybe_phrase (start.Code byte.comma) row.COMMA_DEVICE_3 t ≡ true → (first t == byte.comma) ≡ true
    → more_devices (maybe_tree (start.Code byte.comma) row.COMMA_DEVICE_3 t) ≡ leaf_bytes leaf.Address (drop 1 (drop 1 t)) ∷ more_devices (maybe_tree (start.Code byte.comma) row.COMMA_DEVICE_4 (drop 3 (drop 1 (drop 1 t))))
third_is t ok c = more_next row.COMMA_DEVICE_3 row.COMMA_DEVICE_4 third_row t ok c

-- the fourth is the last
abbrev last_items : List Item
last_items = Sign byte.comma S13_SEPARATOR ∷ Part row.DEVICE ∷ []

fourth_row : row_items row.COMMA_DEVICE_4 ≡ last_items
unfolding row_items
fourth_row = refl

fourth_here : (t : Text) → Follows row.COMMA_DEVICE_4 t → (first t == byte.comma) ≡ true → is_phrase row.COMMA_DEVICE_4 t ≡ true
fourth_here t ok c = begun_part (start.Code byte.comma) row.COMMA_DEVICE_4 t ok (comma_starts t true c)

fourth_device : (t : Text) → Follows row.COMMA_DEVICE_4 t → (first t == byte.comma) ≡ true → is_phrase row.DEVICE (drop 1 t) ≡ true
fourth_device t ok c = (stands_of row.COMMA_DEVICE_4 last_items t fourth_row (fourth_here t ok c)).0.1.0

pub fourth_address : (t : Text) → maybe_phrase (start.Code byte.comma) row.COMMA_DEVICE_4 t ≡ true → (first t == byte.comma) ≡ true → is_leaf leaf.Address (drop 1 (drop 1 t)) ≡ true
fourth_address t ok c = address_here (drop 1 t) (fourth_device t ok c)

pub fourth_is : (t : Text) → maybe_phrase (start.Code byte.comma) row.COMMA_DEVICE_4 t ≡ true → (first t == byte.comma) ≡ true
    → more_devices (maybe_tree (start.Code byte.comma) row.COMMA_DEVICE_4 t) ≡ leaf_bytes leaf.Address (drop 1 (drop 1 t)) ∷ []
fourth_is t ok c =
    ap more_devices (begun_tree (start.Code byte.comma) row.COMMA_DEVICE_4 t (comma_starts t true c))
    ∙ ap (λ (a : Trees). more_devices (In 1 a Done)) (stands_of row.COMMA_DEVICE_4 last_items t fourth_row (fourth_here t ok c)).1
    ∙ ap (λ (x : List ℕ). x ∷ []) (address_is (drop 1 t) (fourth_device t ok c))

-- the list
abbrev list_items : List Item
list_items = Part row.DEVICE ∷ Maybe (start.Code byte.comma) row.COMMA_DEVICE_2 ∷ []

list_row : row_items row.DEVICES ≡ list_items
unfolding row_items
list_row = refl

first_device : (t : Text) → is_phrase row.DEVICES t ≡ true → is_phrase row.DEVICE t ≡ true
first_device t ok = (stands_of row.DEVICES list_items t list_row ok).0.0

pub first_address : (t : Text) → is_phrase row.DEVICES t ≡ true → is_leaf leaf.Address (drop 1 t) ≡ true
first_address t ok = address_here t (first_device t ok)

pub first_rest : (t : Text) → is_phrase row.DEVICES t ≡ true → maybe_phrase (start.Code byte.comma) row.COMMA_DEVICE_2 (drop 3 (drop 1 t)) ≡ true
first_rest t ok =
    subst (λ (u : Text). Follows row.COMMA_DEVICE_2 u) (after_device t (first_device t ok))
    (maybe_stands (start.Code byte.comma) row.COMMA_DEVICE_2 (after_phrase row.DEVICE t) (stands_of row.DEVICES list_items t list_row ok).0.1)

list_tree : (t : Text) → is_phrase row.DEVICES t ≡ true → tree_at row.DEVICES t ≡ In 2 (tree_at row.DEVICE t) (followed_by row.COMMA_DEVICE_2 (after_phrase row.DEVICE t))
unfolding maybe_tree
list_tree t ok = (stands_of row.DEVICES list_items t list_row ok).1

pub first_is : (t : Text) → is_phrase row.DEVICES t ≡ true → devices_in (tree_at row.DEVICES t) ≡ leaf_bytes leaf.Address (drop 1 t) ∷ more_devices (maybe_tree (start.Code byte.comma) row.COMMA_DEVICE_2 (drop 3 (drop 1 t)))
first_is t ok =
    ap devices_in (list_tree t ok)
    ∙ ap (λ (x : List ℕ). x ∷ more_devices (followed_by row.COMMA_DEVICE_2 (after_phrase row.DEVICE t))) (address_is t (first_device t ok))
    ∙ ap (λ (u : Text). leaf_bytes leaf.Address (drop 1 t) ∷ more_devices (followed_by row.COMMA_DEVICE_2 u)) (after_device t (first_device t ok))

-- a list that grew by a device and those after it, or by none
pub grown : (list before after whole rest : List (List ℕ)) (x y : List ℕ) → after ≡ before ++ rest → before ≡ list ++ x ∷ [] → x ≡ y → whole ≡ y ∷ rest → after ≡ list ++ whole
grown list before after whole rest x y grew pushed same is =
    grew ∙ ap (λ (l : List (List ℕ)). l ++ rest) pushed ∙ append_assoc list (x ∷ []) rest ∙ ap (λ (z : List ℕ). list ++ (z ∷ rest)) same ∙ ap (λ (w : List (List ℕ)). list ++ w) (sym is)

pub as_it_was : (list whole : List (List ℕ)) → whole ≡ [] → list ≡ list ++ whole
as_it_was list whole none = sym (append-nil list) ∙ ap (λ (w : List (List ℕ)). list ++ w) (sym none)
