-- MAT MOVE, MAT SORT and MAT COPY, by their rows.
use Rattle.std.proofs.Common.{◌≡◌, true, List, [], ◌∷◌, drop, Ok, refl, ap, ◌∙◌}
use Rattle.b2_atom.specs.Words.{Text}
use Rattle.b2_atom.specs.Grammar.{row_items}
use Rattle.b2_atom.specs.declared.words.TheConstants as word
use Rattle.b2_atom.specs.declared.rows.TheConstants as row
use Rattle.b2_atom.specs.declared.forms.Item.{Item}
use Rattle.b2_base.specs.Byte as byte
use Rattle.b2_atom.specs.Leaves.{leaf_width}
use Rattle.b2_atom.specs.declared.words.Origin.TheVariants.{Atoms}
use Rattle.b2_atom.specs.declared.forms.Leaf.TheVariants as leaf
use Rattle.b2_atom.specs.declared.forms.Item.TheVariants.{Word, Sign, Typed, Part}
use Rattle.b2_base.specs.declared.codes.TheConstants.{S10_OPEN, S11_CLOSE, S13_SEPARATOR, S20_VARIABLE}
use Rattle.b2_rows.specs.Leaves.{is_leaf, leaf_bytes}
use Rattle.b2_rows.specs.Rows.{is_phrase, tree_at, after_phrase}
use Rattle.b2_rows.proofs.RowsRead.{stands_of}
use Rattle.b2_expr.specs.Answers.{◌>>=◌}
use Rattle.b2_expr.specs.Scope.{Context}
use Rattle.b2_receiver.specs.Receivers.{array_receiver}
use Rattle.b2_stmt_mat.specs.Arrays.{array_of}
use Rattle.b2_stmt_mat.specs.ByteArrays.{bytes_in, copy_in, move_in, sort_in}

-- a whole array
abbrev array_items : List Item
array_items = Typed leaf.AlphaName S20_VARIABLE ∷ Sign byte.opening S10_OPEN ∷ Sign byte.closing S11_CLOSE ∷ []

array_row : row_items row.ALPHA_ARRAY ≡ array_items
unfolding row_items
array_row = refl

pub array_name : (t : Text) → is_phrase row.ALPHA_ARRAY t ≡ true → is_leaf leaf.AlphaName t ≡ true
array_name t ok = (stands_of row.ALPHA_ARRAY array_items t array_row ok).0.0

pub array_is : (s : Context) (t : Text) → is_phrase row.ALPHA_ARRAY t ≡ true → bytes_in s (tree_at row.ALPHA_ARRAY t) ≡ array_of s.around true (leaf_bytes leaf.AlphaName t)
unfolding bytes_in array_receiver
array_is s t ok = ap (bytes_in s) (stands_of row.ALPHA_ARRAY array_items t array_row ok).1

two : (t : Text) → drop 1 (drop 1 t) ≡ drop 2 t
two [] = refl
two (a ∷ t) = refl

pub array_rest : (t : Text) → is_phrase row.ALPHA_ARRAY t ≡ true → after_phrase row.ALPHA_ARRAY t ≡ drop 2 (drop (leaf_width Atoms leaf.AlphaName t) t)
array_rest t ok = (stands_of row.ALPHA_ARRAY array_items t array_row ok).2 ∙ two (drop (leaf_width Atoms leaf.AlphaName t) t)

-- the arrays that stand there
abbrev pub first_text : Text → Text
first_text t = drop 1 (drop 1 t)

abbrev pub second_text : Text → Text
second_text t = drop 1 (after_phrase row.ALPHA_ARRAY (first_text t))

abbrev pub third_text : Text → Text
third_text t = drop 1 (after_phrase row.ALPHA_ARRAY (second_text t))

-- MAT MOVE
abbrev move_items : List Item
move_items = Word word.MAT ∷ Word word.MOVE ∷ Part row.ALPHA_ARRAY ∷ Sign byte.comma S13_SEPARATOR ∷ Part row.ALPHA_ARRAY ∷ Word word.TO ∷ Part row.ALPHA_ARRAY ∷ []

move_row : row_items row.MAT_MOVE ≡ move_items
unfolding row_items
move_row = refl

pub move_of : (t : Text) → is_phrase row.MAT_MOVE t ≡ true → is_phrase row.ALPHA_ARRAY (first_text t) ≡ true
move_of t ok = (stands_of row.MAT_MOVE move_items t move_row ok).0.1.1.0

pub move_locators : (t : Text) → is_phrase row.MAT_MOVE t ≡ true → is_phrase row.ALPHA_ARRAY (second_text t) ≡ true
move_locators t ok = (stands_of row.MAT_MOVE move_items t move_row ok).0.1.1.1.1.0

pub move_to : (t : Text) → is_phrase row.MAT_MOVE t ≡ true → is_phrase row.ALPHA_ARRAY (third_text t) ≡ true
move_to t ok = (stands_of row.MAT_MOVE move_items t move_row ok).0.1.1.1.1.1.1.0

pub move_is : (s : Context) (t : Text) → is_phrase row.MAT_MOVE t ≡ true
    → move_in s (tree_at row.MAT_MOVE t) ≡ (bytes_in s (tree_at row.ALPHA_ARRAY (first_text t)) >>= (λ of. bytes_in s (tree_at row.ALPHA_ARRAY (second_text t)) >>= (λ locators. bytes_in s (tree_at row.ALPHA_ARRAY (third_text t)) >>= (λ to. Ok (record { of = of; locators = locators; to = to })))))
unfolding move_in
move_is s t ok = ap (move_in s) (stands_of row.MAT_MOVE move_items t move_row ok).1

-- MAT SORT
abbrev sort_items : List Item
sort_items = Word word.MAT ∷ Word word.SORT ∷ Part row.ALPHA_ARRAY ∷ Word word.TO ∷ Part row.ALPHA_ARRAY ∷ Sign byte.comma S13_SEPARATOR ∷ Part row.ALPHA_ARRAY ∷ []

sort_row : row_items row.MAT_SORT ≡ sort_items
unfolding row_items
sort_row = refl

pub sort_of : (t : Text) → is_phrase row.MAT_SORT t ≡ true → is_phrase row.ALPHA_ARRAY (first_text t) ≡ true
sort_of t ok = (stands_of row.MAT_SORT sort_items t sort_row ok).0.1.1.0

pub sort_work : (t : Text) → is_phrase row.MAT_SORT t ≡ true → is_phrase row.ALPHA_ARRAY (second_text t) ≡ true
sort_work t ok = (stands_of row.MAT_SORT sort_items t sort_row ok).0.1.1.1.1.0

pub sort_to : (t : Text) → is_phrase row.MAT_SORT t ≡ true → is_phrase row.ALPHA_ARRAY (third_text t) ≡ true
sort_to t ok = (stands_of row.MAT_SORT sort_items t sort_row ok).0.1.1.1.1.1.1.0

pub sort_is : (s : Context) (t : Text) → is_phrase row.MAT_SORT t ≡ true
    → sort_in s (tree_at row.MAT_SORT t) ≡ (bytes_in s (tree_at row.ALPHA_ARRAY (first_text t)) >>= (λ of. bytes_in s (tree_at row.ALPHA_ARRAY (second_text t)) >>= (λ work. bytes_in s (tree_at row.ALPHA_ARRAY (third_text t)) >>= (λ to. Ok (record { of = of; to = to })))))
unfolding sort_in
sort_is s t ok = ap (sort_in s) (stands_of row.MAT_SORT sort_items t sort_row ok).1

-- MAT COPY
abbrev copy_items : List Item
copy_items = Word word.MAT ∷ Word word.COPY ∷ Part row.ALPHA_ARRAY ∷ Word word.TO ∷ Part row.ALPHA_ARRAY ∷ []

copy_row : row_items row.MAT_COPY ≡ copy_items
unfolding row_items
copy_row = refl

pub copy_of : (t : Text) → is_phrase row.MAT_COPY t ≡ true → is_phrase row.ALPHA_ARRAY (first_text t) ≡ true
copy_of t ok = (stands_of row.MAT_COPY copy_items t copy_row ok).0.1.1.0

pub copy_to : (t : Text) → is_phrase row.MAT_COPY t ≡ true → is_phrase row.ALPHA_ARRAY (second_text t) ≡ true
copy_to t ok = (stands_of row.MAT_COPY copy_items t copy_row ok).0.1.1.1.1.0

pub copy_is : (s : Context) (t : Text) → is_phrase row.MAT_COPY t ≡ true
    → copy_in s (tree_at row.MAT_COPY t) ≡ (bytes_in s (tree_at row.ALPHA_ARRAY (first_text t)) >>= (λ of. bytes_in s (tree_at row.ALPHA_ARRAY (second_text t)) >>= (λ to. Ok (record { of = of; to = to }))))
unfolding copy_in
copy_is s t ok = ap (copy_in s) (stands_of row.MAT_COPY copy_items t copy_row ok).1
