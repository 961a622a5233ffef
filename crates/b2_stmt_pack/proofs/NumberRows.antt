-- PACK and UNPACK, by their rows.
use Rattle.std.proofs.Common.{◌≡◌, Bool, true, false, List, [], ◌∷◌, drop, length, is_some, if◌then◌else◌, refl, sym, ap, ◌∙◌}
use Rattle.b2_base.specs.declared.codes.TheConstants.{P58_SPECIFICATION, S11_CLOSE}
use Rattle.b2_atom.specs.Words.{Text}
use Rattle.b2_atom.specs.Leaves.{leaf_width}
use Rattle.b2_atom.specs.Tree.{Trees}
use Rattle.b2_atom.specs.Grammar.{row_items}
use Rattle.b2_atom.specs.declared.words.Origin.TheVariants.{Atoms}
use Rattle.b2_atom.specs.declared.words.TheConstants as word
use Rattle.b2_atom.specs.declared.rows.TheConstants as row
use Rattle.b2_atom.specs.declared.forms.Leaf.TheVariants as leaf
use Rattle.b2_atom.specs.declared.forms.Item.{Item}
use Rattle.b2_atom.specs.declared.forms.Item.TheVariants.{Word, Typed, Part, Many}
use Rattle.b2_rows.specs.CommaLists.{commas}
use Rattle.b2_rows.specs.Leaves.{is_leaf, leaf_bytes}
use Rattle.b2_rows.specs.Rows.{is_phrase, tree_at, after_phrase, is_list}
use Rattle.b2_rows.specs.Values.{image_of}
use Rattle.b2_rows.proofs.RowsRead.{stands_of}
use Rattle.b2_pack.specs.Images.{image_row}
use Rattle.b2_pack.specs.Unpacking.{numbers_by_rows}
use Rattle.b2_expr.specs.Value.{context_of}
use Rattle.b2_expr.specs.Workspace.{WorkState, WorkLeft, refused, surroundings_of}
use Rattle.b2_receiver.specs.Receivers.{buffer}
use Rattle.b2_stmt_pack.specs.Buffers.{packs_to, read_from}
use Rattle.b2_stmt_pack.specs.Lists.{all_taken, each_of, items_at, number_of, takes_number}
use Rattle.b2_stmt_pack.specs.Numbers.{numbers_packed, packs, packs_by, unpacks, unpacks_by}

-- the image, the buffer after it, and the list after that
abbrev pub image_text : Text → Text
image_text t = image_of (leaf_bytes leaf.Image (drop 1 t))

abbrev pub buffer_text : Text → Text
buffer_text t = drop (leaf_width Atoms leaf.Image (drop 1 t)) (drop 1 t)

abbrev pub items_text : Text → Text
items_text t = drop 1 (after_phrase row.BUFFER (buffer_text t))

-- PACK
abbrev pack_row : List Item
pack_row = Word word.PACK_OPEN ∷ Typed leaf.Image S11_CLOSE ∷ Part row.BUFFER ∷ Word word.FROM ∷ Part row.SUM ∷ Many commas row.COMMA_NUMBER ∷ []

pack_row_is : row_items row.PACK ≡ pack_row
unfolding row_items
pack_row_is = refl

pub pack_leaf : (t : Text) → is_phrase row.PACK t ≡ true → is_leaf leaf.Image (drop 1 t) ≡ true
pack_leaf t ok = (stands_of row.PACK pack_row t pack_row_is ok).0.1.0

pub pack_buffer : (t : Text) → is_phrase row.PACK t ≡ true → is_phrase row.BUFFER (buffer_text t) ≡ true
pack_buffer t ok = (stands_of row.PACK pack_row t pack_row_is ok).0.1.1.0

pub pack_number : (t : Text) → is_phrase row.PACK t ≡ true → is_phrase row.SUM (items_text t) ≡ true
pack_number t ok = (stands_of row.PACK pack_row t pack_row_is ok).0.1.1.1.1.0

pub pack_list : (t : Text) → is_phrase row.PACK t ≡ true → is_list commas row.COMMA_NUMBER (after_phrase row.SUM (items_text t)) ≡ true
pack_list t ok = (stands_of row.PACK pack_row t pack_row_is ok).0.1.1.1.1.1.0

pub pack_is : (t : Text) (w : WorkState) → is_phrase row.PACK t ≡ true
    → packs (tree_at row.PACK t) w ≡ packs_by (image_text t) (buffer (context_of w) (tree_at row.BUFFER (buffer_text t))) (items_at row.COMMA_NUMBER row.SUM (items_text t)) w
pack_is t w ok = ap (λ (a : Trees). packs a w) (stands_of row.PACK pack_row t pack_row_is ok).1

-- UNPACK
abbrev unpack_row : List Item
unpack_row = Word word.UNPACK_OPEN ∷ Typed leaf.Image S11_CLOSE ∷ Part row.BUFFER ∷ Word word.TO ∷ Part row.NUMERIC_RECEIVER ∷ Many commas row.COMMA_NUMERIC_RECEIVER ∷ []

unpack_row_is : row_items row.UNPACK ≡ unpack_row
unfolding row_items
unpack_row_is = refl

pub unpack_leaf : (t : Text) → is_phrase row.UNPACK t ≡ true → is_leaf leaf.Image (drop 1 t) ≡ true
unpack_leaf t ok = (stands_of row.UNPACK unpack_row t unpack_row_is ok).0.1.0

pub unpack_buffer : (t : Text) → is_phrase row.UNPACK t ≡ true → is_phrase row.BUFFER (buffer_text t) ≡ true
unpack_buffer t ok = (stands_of row.UNPACK unpack_row t unpack_row_is ok).0.1.1.0

pub unpack_receiver : (t : Text) → is_phrase row.UNPACK t ≡ true → is_phrase row.NUMERIC_RECEIVER (items_text t) ≡ true
unpack_receiver t ok = (stands_of row.UNPACK unpack_row t unpack_row_is ok).0.1.1.1.1.0

pub unpack_list : (t : Text) → is_phrase row.UNPACK t ≡ true → is_list commas row.COMMA_NUMERIC_RECEIVER (after_phrase row.NUMERIC_RECEIVER (items_text t)) ≡ true
unpack_list t ok = (stands_of row.UNPACK unpack_row t unpack_row_is ok).0.1.1.1.1.1.0

pub unpack_is : (t : Text) (w : WorkState) → is_phrase row.UNPACK t ≡ true
    → unpacks (tree_at row.UNPACK t) w ≡ unpacks_by (image_text t) (buffer (context_of w) (tree_at row.BUFFER (buffer_text t))) (items_at row.COMMA_NUMERIC_RECEIVER row.NUMERIC_RECEIVER (items_text t)) w
unpack_is t w ok = ap (λ (a : Trees). unpacks a w) (stands_of row.UNPACK unpack_row t unpack_row_is ok).1

-- where the image is one
same_by : {A : Type 0} (b : Bool) (x y : A) → b ≡ true → (if b then x else y) ≡ x
same_by true x y is = refl
same_by false x y is = cc

pub pack_fine : (t image rest : Text) (w : WorkState) (left : WorkLeft) → is_phrase row.PACK t ≡ true → image ≡ image_text t → rest ≡ buffer_text t → is_some (image_row image) ≡ true
    → left ≡ packs_to (numbers_packed image) (buffer (context_of w) (tree_at row.BUFFER rest)) (each_of (number_of (context_of w)) (items_at row.COMMA_NUMBER row.SUM (drop 1 (after_phrase row.BUFFER rest)))) w → left ≡ packs (tree_at row.PACK t) w
pack_fine t image rest w left ok is_image is_rest fine is =
    is
    ∙ sym (same_by (is_some (image_row image)) _ (refused P58_SPECIFICATION w) fine)
    ∙ ap (λ (i : Text). packs_by i (buffer (context_of w) (tree_at row.BUFFER rest)) (items_at row.COMMA_NUMBER row.SUM (drop 1 (after_phrase row.BUFFER rest))) w) is_image
    ∙ ap (λ (u : Text). packs_by (image_text t) (buffer (context_of w) (tree_at row.BUFFER u)) (items_at row.COMMA_NUMBER row.SUM (drop 1 (after_phrase row.BUFFER u))) w) is_rest
    ∙ sym (pack_is t w ok)

pub unpack_fine : (t image rest : Text) (w : WorkState) (left : WorkLeft) → is_phrase row.UNPACK t ≡ true → image ≡ image_text t → rest ≡ buffer_text t → is_some (image_row image) ≡ true
    → left ≡ all_taken takes_number (items_at row.COMMA_NUMERIC_RECEIVER row.NUMERIC_RECEIVER (drop 1 (after_phrase row.BUFFER rest))) (read_from (numbers_by_rows (image_row image) (length (items_at row.COMMA_NUMERIC_RECEIVER row.NUMERIC_RECEIVER (drop 1 (after_phrase row.BUFFER rest))))) (buffer (context_of w) (tree_at row.BUFFER rest)) (surroundings_of w)) w
    → left ≡ unpacks (tree_at row.UNPACK t) w
unpack_fine t image rest w left ok is_image is_rest fine is =
    is
    ∙ sym (same_by (is_some (image_row image)) _ (refused P58_SPECIFICATION w) fine)
    ∙ ap (λ (i : Text). unpacks_by i (buffer (context_of w) (tree_at row.BUFFER rest)) (items_at row.COMMA_NUMERIC_RECEIVER row.NUMERIC_RECEIVER (drop 1 (after_phrase row.BUFFER rest))) w) is_image
    ∙ ap (λ (u : Text). unpacks_by (image_text t) (buffer (context_of w) (tree_at row.BUFFER u)) (items_at row.COMMA_NUMERIC_RECEIVER row.NUMERIC_RECEIVER (drop 1 (after_phrase row.BUFFER u))) w) is_rest
    ∙ sym (unpack_is t w ok)
