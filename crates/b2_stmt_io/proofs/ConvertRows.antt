-- CONVERT by its rows: of bytes, and of a number.
use Rattle.std.proofs.Common.{◌≡◌, ◌≤◌, ◌-◌, ℕ, Bool, true, false, if◌then◌else◌, List, [], ◌∷◌, length, take, drop, refl, ap, ◌∙◌, arith}
use Rattle.std.proofs.lemmas.List.{length-drop, length-take}
use Rattle.b2_base.specs.Byte as byte
use Rattle.b2_base.specs.declared.codes.TheConstants.{S10_OPEN, S11_CLOSE, S13_SEPARATOR}
use Rattle.b2_atom.specs.Words.{Text}
use Rattle.b2_atom.specs.Leaves.{leaf_width}
use Rattle.b2_atom.specs.Tokens.Token.{Coded}
use Rattle.b2_atom.specs.Tree.{Trees}
use Rattle.b2_atom.specs.Tree.Trees.{Done, Put, In}
use Rattle.b2_atom.specs.Grammar.{row_items, starts}
use Rattle.b2_atom.specs.declared.words.Origin.TheVariants.{Atoms}
use Rattle.b2_atom.specs.declared.words.TheConstants as word
use Rattle.b2_atom.specs.declared.rows.TheConstants as row
use Rattle.b2_atom.specs.declared.forms.Start.TheVariants as start
use Rattle.b2_atom.specs.declared.forms.Leaf.TheVariants as leaf
use Rattle.b2_atom.specs.declared.forms.Item.{Item}
use Rattle.b2_atom.specs.declared.forms.Item.TheVariants.{Word, Sign, Typed, Part, Either}
use Rattle.b2_rows.specs.Leaves.{is_leaf, leaf_bytes}
use Rattle.b2_rows.specs.Rows.{is_phrase, tree_at, after_phrase, When}
use Rattle.b2_rows.specs.Values.{image_of}
use Rattle.b2_rows.proofs.Levels.{part_no_longer}
use Rattle.b2_rows.proofs.RowsRead.{part_short, stands_of}
use Rattle.b2_expr.specs.Value.{context_of, text, value}
use Rattle.b2_expr.specs.Workspace.{WorkState}
use Rattle.b2_expr.specs.declared.operators.Level.TheVariants as level
use Rattle.b2_stmt_io.specs.Converting.{converts, converts_bytes, converts_number, image_from, number_from}

-- of bytes
abbrev bytes_items : List Item
bytes_items = Part row.ALPHA ∷ Word word.TO ∷ Part row.NUMERIC_RECEIVER ∷ []

bytes_row : row_items row.CONVERT_ALPHA ≡ bytes_items
unfolding row_items
bytes_row = refl

pub bytes_here : (t : Text) → is_phrase row.CONVERT_ALPHA t ≡ true → is_phrase row.ALPHA t ≡ true
bytes_here t ok = (stands_of row.CONVERT_ALPHA bytes_items t bytes_row ok).0.0

pub bytes_receiver : (t : Text) → is_phrase row.CONVERT_ALPHA t ≡ true → is_phrase row.NUMERIC_RECEIVER (drop 1 (after_phrase row.ALPHA t)) ≡ true
bytes_receiver t ok = (stands_of row.CONVERT_ALPHA bytes_items t bytes_row ok).0.1.1.0

pub bytes_are : (t : Text) (w : WorkState) → is_phrase row.CONVERT_ALPHA t ≡ true
    → converts_bytes (tree_at row.CONVERT_ALPHA t) w
    ≡ number_from (text (context_of w) (tree_at row.ALPHA t)) (tree_at row.NUMERIC_RECEIVER (drop 1 (after_phrase row.ALPHA t))) w
bytes_are t w ok = ap (λ (u : Trees). converts_bytes u w) (stands_of row.CONVERT_ALPHA bytes_items t bytes_row ok).1

-- of a number
abbrev number_items : List Item
number_items = Part row.SUM ∷ Word word.TO ∷ Part row.ALPHA_RECEIVER ∷ Sign byte.comma S13_SEPARATOR ∷ Sign byte.opening S10_OPEN ∷ Typed leaf.Image S11_CLOSE ∷ []

number_row : row_items row.CONVERT_NUMBER ≡ number_items
unfolding row_items
number_row = refl

abbrev pub receiver_text : Text → Text
receiver_text t = drop 1 (after_phrase row.SUM t)

abbrev pub image_text : Text → Text
image_text t = drop 1 (drop 1 (after_phrase row.ALPHA_RECEIVER (receiver_text t)))

pub number_here : (t : Text) → is_phrase row.CONVERT_NUMBER t ≡ true → is_phrase row.SUM t ≡ true
number_here t ok = (stands_of row.CONVERT_NUMBER number_items t number_row ok).0.0

pub number_receiver : (t : Text) → is_phrase row.CONVERT_NUMBER t ≡ true → is_phrase row.ALPHA_RECEIVER (receiver_text t) ≡ true
number_receiver t ok = (stands_of row.CONVERT_NUMBER number_items t number_row ok).0.1.1.0

pub image_here : (t : Text) → is_phrase row.CONVERT_NUMBER t ≡ true → is_leaf leaf.Image (image_text t) ≡ true
image_here t ok = (stands_of row.CONVERT_NUMBER number_items t number_row ok).0.1.1.1.1.1.0

taken_no_longer : (n : ℕ) (t : Text) → length (take n t) ≤ length t
taken_no_longer n t = let e = length-take n t in grind (arith, e)

dropped_no_longer : (n : ℕ) (t : Text) → length (drop n t) ≤ length t
dropped_no_longer n t = let e = length-drop n t in omega (arith, e)

-- an image, without its parenthesis, is shorter than its bytes
image_of_short : (w : Text) → length w ≤ 256 → length (image_of w) ≤ 255
image_of_short w small = let e = length-take (length w - 1) w in grind (arith, e, small)

image_text_short : (t : Text) → is_phrase row.CONVERT_NUMBER t ≡ true → length (image_text t) ≤ 256
image_text_short t ok =
    let whole = part_short row.CONVERT_NUMBER t ok in
    let sum = part_no_longer row.SUM t in
    let word = dropped_no_longer 1 (after_phrase row.SUM t) in
    let receiver = part_no_longer row.ALPHA_RECEIVER (receiver_text t) in
    let comma = dropped_no_longer 1 (after_phrase row.ALPHA_RECEIVER (receiver_text t)) in
    let opening = dropped_no_longer 1 (drop 1 (after_phrase row.ALPHA_RECEIVER (receiver_text t))) in
    omega (arith, whole, sum, word, receiver, comma, opening)

pub image_short : (t : Text) → is_phrase row.CONVERT_NUMBER t ≡ true → length (image_of (leaf_bytes leaf.Image (image_text t))) ≤ 255
image_short t ok =
    let e = taken_no_longer (leaf_width Atoms leaf.Image (image_text t)) (image_text t) in
    let f = image_text_short t ok in
    image_of_short (leaf_bytes leaf.Image (image_text t)) (omega (arith, e, f))

pub number_is : (t : Text) (w : WorkState) → is_phrase row.CONVERT_NUMBER t ≡ true
    → converts_number (tree_at row.CONVERT_NUMBER t) w
    ≡ image_from (value (context_of w) level.Sum (tree_at row.SUM t)) (image_of (leaf_bytes leaf.Image (image_text t))) (tree_at row.ALPHA_RECEIVER (receiver_text t)) w
number_is t w ok = ap (λ (u : Trees). converts_number u w) (stands_of row.CONVERT_NUMBER number_items t number_row ok).1

-- CONVERT
abbrev convert_items : List Item
convert_items = Word word.CONVERT ∷ Either start.Alpha row.CONVERT_ALPHA row.CONVERT_NUMBER ∷ []

convert_row : row_items row.CONVERT ≡ convert_items
unfolding row_items
convert_row = refl

taken_way : (b : Bool) (x y : Type 0) → b ≡ true → When b x y → x
taken_way true x y is h = h
taken_way false x y is h = cc

other_way : (b : Bool) (x y : Type 0) → b ≡ false → When b x y → y
other_way true x y is h = cc
other_way false x y is h = h

pub alpha_here : (t : Text) → is_phrase row.CONVERT t ≡ true → starts Atoms start.Alpha (drop 1 t) ≡ true → is_phrase row.CONVERT_ALPHA (drop 1 t) ≡ true
alpha_here t ok is = (taken_way (starts Atoms start.Alpha (drop 1 t)) _ _ is (stands_of row.CONVERT convert_items t convert_row ok).0.1).0

pub other_here : (t : Text) → is_phrase row.CONVERT t ≡ true → starts Atoms start.Alpha (drop 1 t) ≡ false → is_phrase row.CONVERT_NUMBER (drop 1 t) ≡ true
other_here t ok is = (other_way (starts Atoms start.Alpha (drop 1 t)) _ _ is (stands_of row.CONVERT convert_items t convert_row ok).0.1).0

converts_by : (w : WorkState) (b c : Bool) (x y : Trees) → b ≡ c
    → converts (Put (Coded word.CONVERT) (if b then In 1 x Done else In 0 y Done)) w ≡ (if c then converts_bytes x w else converts_number y w)
converts_by w true true x y is = refl
converts_by w false false x y is = refl
converts_by w true false x y is = cc
converts_by w false true x y is = cc

pub alpha_is : (t : Text) (w : WorkState) → is_phrase row.CONVERT t ≡ true → starts Atoms start.Alpha (drop 1 t) ≡ true
    → converts (tree_at row.CONVERT t) w ≡ converts_bytes (tree_at row.CONVERT_ALPHA (drop 1 t)) w
alpha_is t w ok is =
    ap (λ (u : Trees). converts u w) (stands_of row.CONVERT convert_items t convert_row ok).1
    ∙ converts_by w (starts Atoms start.Alpha (drop 1 t)) true (tree_at row.CONVERT_ALPHA (drop 1 t)) (tree_at row.CONVERT_NUMBER (drop 1 t)) is

pub other_is : (t : Text) (w : WorkState) → is_phrase row.CONVERT t ≡ true → starts Atoms start.Alpha (drop 1 t) ≡ false
    → converts (tree_at row.CONVERT t) w ≡ converts_number (tree_at row.CONVERT_NUMBER (drop 1 t)) w
other_is t w ok is =
    ap (λ (u : Trees). converts u w) (stands_of row.CONVERT convert_items t convert_row ok).1
    ∙ converts_by w (starts Atoms start.Alpha (drop 1 t)) false (tree_at row.CONVERT_ALPHA (drop 1 t)) (tree_at row.CONVERT_NUMBER (drop 1 t)) is
