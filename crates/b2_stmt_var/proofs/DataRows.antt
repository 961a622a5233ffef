-- DATA by its row: its literals one after another, and the two kinds of them.
use Rattle.std.proofs.Common.{◌≡◌, ◌<◌, ◌≤◌, ℕ, zero, suc, ◌+◌, ◌-◌, ◌==◌, Bool, true, false, List, [], ◌∷◌, length, take, drop, Some, None, Ok, refl, sym, ap, ◌∙◌, arith}
use Rattle.std.specs.Prelude.{slice_get}
use Rattle.b2_base.specs.Byte as byte
use Rattle.b2_base.specs.Lexical.{first}
use Rattle.b2_base.specs.declared.codes.TheConstants.{S13_SEPARATOR, S16_NUMBER_LITERAL, S18_ALPHA}
use Rattle.b2_dec.specs.declared.values.Value.TheVariants as value
use Rattle.b2_atom.specs.Words.{Text}
use Rattle.b2_atom.specs.Leaves.{leaf_width}
use Rattle.b2_atom.specs.Tree.{Trees}
use Rattle.b2_atom.specs.Tree.Trees.{Done, In}
use Rattle.b2_atom.specs.Grammar.{row_items, starts}
use Rattle.b2_atom.specs.declared.words.Origin.TheVariants.{Atoms}
use Rattle.b2_atom.specs.declared.words.TheConstants as word
use Rattle.b2_atom.specs.declared.rows.TheConstants as row
use Rattle.b2_atom.specs.declared.forms.Start.TheVariants as start
use Rattle.b2_atom.specs.declared.forms.Leaf.TheVariants as leaf
use Rattle.b2_atom.specs.declared.forms.Item.{Item}
use Rattle.b2_atom.specs.declared.forms.Item.TheVariants.{Word, Typed, Part, Many}
use Rattle.b2_rows.specs.Choices.{ReadAs, first_branch, second_branch}
use Rattle.b2_rows.specs.Leaves.{is_leaf}
use Rattle.b2_rows.specs.Rows.{is_phrase, tree_at, after_phrase, is_list}
use Rattle.b2_rows.proofs.Choices.{either_first, either_second}
use Rattle.b2_expr.specs.Answers.{◌>>=◌}
use Rattle.b2_expr.specs.Value.{literal_value}
use Rattle.b2_rows.proofs.RowsRead.{part_short, stands_of}
use Rattle.b2_stmt_var.specs.Data.{literal_bytes_at, data_at, datum_value, literals_listed}
use Rattle.b2_rows.proofs.CommaLists.{IsComma, Other, other, items_of_other, no_items_left}
use Rattle.b2_rows.specs.CommaLists.{commas}

-- whether a quote stands there
loop_begins : (t : Text) (b : Bool) → (first t == byte.quote) ≡ b → starts Atoms (start.Code byte.quote) t ≡ b
unfolding starts
loop_begins t b is = is

quoted : (t : Text) → is_phrase row.DATUM t ≡ true → (first t == byte.quote) ≡ true → ReadAs row.DATUM row.LITERAL first_branch t
unfolding row_items
quoted t ok is = either_first row.DATUM row.LITERAL row.NUMBER_DATUM (start.Code byte.quote) t refl ok (loop_begins t true is)

numbered : (t : Text) → is_phrase row.DATUM t ≡ true → (first t == byte.quote) ≡ false → ReadAs row.DATUM row.NUMBER_DATUM second_branch t
unfolding row_items
numbered t ok is = either_second row.DATUM row.LITERAL row.NUMBER_DATUM (start.Code byte.quote) t refl ok (loop_begins t false is)

-- bytes in quotes
abbrev literal_items : List Item
literal_items = Typed leaf.Literal S18_ALPHA ∷ []

literal_row : row_items row.LITERAL ≡ literal_items
unfolding row_items
literal_row = refl

pub literal_here : (t : Text) → is_phrase row.LITERAL t ≡ true → is_leaf leaf.Literal t ≡ true
literal_here t ok = (stands_of row.LITERAL literal_items t literal_row ok).0.0

taken : (n : ℕ) (t : Text) → length (take n t) ≤ length t
taken zero t = omega arith
taken (suc n) [] = omega arith
taken (suc n) (b ∷ t) = let e = taken n t in omega (arith, e)

after_first : (m : ℕ) (t : Text) → length t ≤ 256 → length (drop 1 (take m t)) ≤ 255
after_first zero t short = omega arith
after_first (suc m) [] short = omega arith
after_first (suc m) (b ∷ t) short = let e = taken m t in omega (arith, e, short)

within : (n m : ℕ) (t : Text) → length t ≤ 256 → length (take n (drop 1 (take m t))) ≤ 255
within n m t short = let e = taken n (drop 1 (take m t)) in let f = after_first m t short in omega (arith, e, f)

pub literal_short : (t : Text) → is_phrase row.LITERAL t ≡ true → length (literal_bytes_at t) ≤ 255
literal_short t ok = within _ _ t (part_short row.LITERAL t ok)

pub quoted_here : (t : Text) → is_phrase row.DATUM t ≡ true → (first t == byte.quote) ≡ true → is_phrase row.LITERAL t ≡ true
quoted_here t ok is = ReadAs.part (quoted t ok is)

pub quoted_is : (t : Text) → is_phrase row.DATUM t ≡ true → (first t == byte.quote) ≡ true → datum_value (tree_at row.DATUM t) ≡ Ok (value.Alpha (literal_bytes_at t))
quoted_is t ok is =
    let q = quoted t ok is in
    ap datum_value (ReadAs.tree q) ∙ ap (λ (a : Trees). datum_value (In 1 a Done)) (stands_of row.LITERAL literal_items t literal_row (ReadAs.part q)).1

pub quoted_rest : (t : Text) → is_phrase row.DATUM t ≡ true → (first t == byte.quote) ≡ true → after_phrase row.DATUM t ≡ drop (leaf_width Atoms leaf.Literal t) t
quoted_rest t ok is = let q = quoted t ok is in ReadAs.rest q ∙ (stands_of row.LITERAL literal_items t literal_row (ReadAs.part q)).2

-- a number
abbrev number_items : List Item
number_items = Typed leaf.SignedNumber S16_NUMBER_LITERAL ∷ []

number_row : row_items row.NUMBER_DATUM ≡ number_items
unfolding row_items
number_row = refl

pub number_is : (t : Text) → is_phrase row.DATUM t ≡ true → (first t == byte.quote) ≡ false
    → datum_value (tree_at row.DATUM t) ≡ (literal_value (take (leaf_width Atoms leaf.SignedNumber t) t) >>= (λ x. Ok (value.Number x)))
number_is t ok is =
    let n = numbered t ok is in
    ap datum_value (ReadAs.tree n) ∙ ap (λ (a : Trees). datum_value (In 0 a Done)) (stands_of row.NUMBER_DATUM number_items t number_row (ReadAs.part n)).1

pub number_rest : (t : Text) → is_phrase row.DATUM t ≡ true → (first t == byte.quote) ≡ false → after_phrase row.DATUM t ≡ drop (leaf_width Atoms leaf.SignedNumber t) t
number_rest t ok is = let n = numbered t ok is in ReadAs.rest n ∙ (stands_of row.NUMBER_DATUM number_items t number_row (ReadAs.part n)).2

-- further literals
pub comma_row : IsComma row.COMMA_DATUM row.DATUM S13_SEPARATOR
unfolding row_items
comma_row = refl

abbrev Others : Text → Type 0
Others t = is_list commas row.COMMA_DATUM t ≡ true

abbrev past : Text → Text
past t = after_phrase row.DATUM t

pub other_part : (t : Text) → Others t → (first t == byte.comma) ≡ true → is_phrase row.DATUM (drop 1 t) ≡ true
other_part t ok is = Other.part (other row.COMMA_DATUM row.DATUM S13_SEPARATOR t comma_row ok is)

pub other_list : (t : Text) → Others t → (first t == byte.comma) ≡ true → Others (past (drop 1 t))
other_list t ok is = Other.list (other row.COMMA_DATUM row.DATUM S13_SEPARATOR t comma_row ok is)

next_data : (t : Text) → Others (past t) → (first (past t) == byte.comma) ≡ true → data_at t ≡ tree_at row.DATUM t ∷ data_at (drop 1 (past t))
next_data t ok is = ap (λ (ts : List Trees). tree_at row.DATUM t ∷ ts) (items_of_other row.COMMA_DATUM row.DATUM S13_SEPARATOR Done (past t) comma_row ok is)

last_data : (t : Text) → (first (past t) == byte.comma) ≡ false → data_at t ≡ tree_at row.DATUM t ∷ []
last_data t is = ap (λ (ts : List Trees). tree_at row.DATUM t ∷ ts) (no_items_left row.COMMA_DATUM Done (past t) is)

some_left : (k i : ℕ) → i < k → k - i ≡ suc (k - (i + 1))
some_left k i h = omega arith

none_left : (k i : ℕ) → k ≤ i → k - i ≡ 0
none_left k i h = omega arith

pub on_datum : (t : Text) (k i : ℕ) → Others (past t) → (first (past t) == byte.comma) ≡ true → i < k
    → slice_get (data_at (drop 1 (past t))) (k - (i + 1)) ≡ slice_get (data_at t) (k - i)
on_datum t k i ok is h = sym (ap (λ (n : ℕ). slice_get (data_at t) n) (some_left k i h) ∙ ap (λ (ls : List Trees). slice_get ls (suc (k - (i + 1)))) (next_data t ok is))

pub no_datum : (t : Text) (k i : ℕ) → (first (past t) == byte.comma) ≡ false → i < k → slice_get (data_at t) (k - i) ≡ None
no_datum t k i is h = ap (λ (n : ℕ). slice_get (data_at t) n) (some_left k i h) ∙ ap (λ (ls : List Trees). slice_get ls (suc (k - (i + 1)))) (last_data t is)

pub here_datum : (t : Text) (k i : ℕ) → k ≤ i → slice_get (data_at t) (k - i) ≡ Some (tree_at row.DATUM t)
here_datum t k i h = ap (λ (n : ℕ). slice_get (data_at t) n) (none_left k i h)

-- DATA
abbrev data_items : List Item
data_items = Word word.DATA ∷ Part row.DATUM ∷ Many commas row.COMMA_DATUM ∷ []

data_row : row_items row.DATA ≡ data_items
unfolding row_items
data_row = refl

pub data_first : (t : Text) → is_phrase row.DATA t ≡ true → is_phrase row.DATUM (drop 1 t) ≡ true
data_first t ok = (stands_of row.DATA data_items t data_row ok).0.1.0

pub data_list : (t : Text) → is_phrase row.DATA t ≡ true → Others (past (drop 1 t))
data_list t ok = (stands_of row.DATA data_items t data_row ok).0.1.1.0

pub data_is : (t : Text) → is_phrase row.DATA t ≡ true → literals_listed (tree_at row.DATA t) ≡ data_at (drop 1 t)
data_is t ok = ap literals_listed (stands_of row.DATA data_items t data_row ok).1
