-- AT and BOX by their rows: where their numbers stand, and that what these come to lies on the screen.
use Rattle.std.proofs.Common.{◌≡◌, ◌≤◌, ℕ, ◌+◌, ◌-◌, ◌==◌, true, false, List, [], ◌∷◌, drop, refl, ap, ◌∙◌, Ok, arith}
use Rattle.std.proofs.lemmas.Bool.{le-leb, lt-ltb}
use Rattle.b2_base.specs.Byte as byte
use Rattle.b2_base.specs.Lexical.{first}
use Rattle.b2_base.specs.declared.codes.TheConstants.{S11_CLOSE, S13_SEPARATOR}
use Rattle.b2_atom.specs.Words.{Text}
use Rattle.b2_atom.specs.Tree.{Trees}
use Rattle.b2_atom.specs.Tree.Trees.{Done, In}
use Rattle.b2_atom.specs.Grammar.{row_items, starts}
use Rattle.b2_atom.specs.declared.words.Origin.TheVariants.{Atoms}
use Rattle.b2_atom.specs.declared.words.TheConstants as word
use Rattle.b2_atom.specs.declared.rows.TheConstants as row
use Rattle.b2_atom.specs.declared.forms.Start.TheVariants as start
use Rattle.b2_atom.specs.declared.forms.Item.{Item}
use Rattle.b2_atom.specs.declared.forms.Item.TheVariants.{Word, Sign, Nest, Part, Maybe}
use Rattle.b2_rows.specs.Rows.{is_phrase, tree_at, after_phrase}
use Rattle.b2_rows.specs.Optional.{maybe_phrase, maybe_tree, after_maybe}
use Rattle.b2_rows.proofs.Optional.{begun_part, begun_tree, begun_rest, left_out_tree, left_out_rest}
use Rattle.b2_rows.proofs.RowsRead.{stands_of}
use Rattle.b2_expr.specs.Answers.{◌>>=◌}
use Rattle.b2_expr.specs.Scope.{Context}
use Rattle.b2_print.specs.Layout.{is_on_screen}
use Rattle.b2_print.specs.declared.layout.Item.TheVariants as shown
use Rattle.b2_stmt_io.specs.Printing.{at_in, box_in, erased_in, outline_in, place_in, whole_in}
use Rattle.b2_stmt_io.proofs.LeftOut.{maybe_then}

-- how many cells are erased: a number after a comma, where one is written
abbrev count_items : List Item
count_items = Sign byte.comma S13_SEPARATOR ∷ Part row.SUM ∷ []

count_row : row_items row.COMMA_NUMBER ≡ count_items
unfolding row_items
count_row = refl

comma_begins : (t : Text) → (first t == byte.comma) ≡ true → starts Atoms (start.Code byte.comma) t ≡ true
unfolding starts
comma_begins t is = is

comma_fails : (t : Text) → (first t == byte.comma) ≡ false → starts Atoms (start.Code byte.comma) t ≡ false
unfolding starts
comma_fails t is = is

count_there : (t : Text) → maybe_phrase (start.Code byte.comma) row.COMMA_NUMBER t ≡ true → (first t == byte.comma) ≡ true → is_phrase row.COMMA_NUMBER t ≡ true
count_there t ok is = begun_part (start.Code byte.comma) row.COMMA_NUMBER t ok (comma_begins t is)

pub count_part : (t : Text) → maybe_phrase (start.Code byte.comma) row.COMMA_NUMBER t ≡ true → (first t == byte.comma) ≡ true → is_phrase row.SUM (drop 1 t) ≡ true
count_part t ok is = (stands_of row.COMMA_NUMBER count_items t count_row (count_there t ok is)).0.1.0

pub count_is : (s : Context) (column : ℕ) (t : Text) → maybe_phrase (start.Code byte.comma) row.COMMA_NUMBER t ≡ true → (first t == byte.comma) ≡ true
    → erased_in s column (maybe_tree (start.Code byte.comma) row.COMMA_NUMBER t) ≡ whole_in s 0 (80 - column) (tree_at row.SUM (drop 1 t))
count_is s column t ok is =
    ap (erased_in s column) (begun_tree (start.Code byte.comma) row.COMMA_NUMBER t (comma_begins t is))
    ∙ ap (λ (a : Trees). erased_in s column (In 1 a Done)) (stands_of row.COMMA_NUMBER count_items t count_row (count_there t ok is)).1

pub count_rest : (t : Text) → maybe_phrase (start.Code byte.comma) row.COMMA_NUMBER t ≡ true → (first t == byte.comma) ≡ true
    → after_maybe (start.Code byte.comma) row.COMMA_NUMBER t ≡ after_phrase row.SUM (drop 1 t)
count_rest t ok is =
    begun_rest (start.Code byte.comma) row.COMMA_NUMBER t (comma_begins t is)
    ∙ (stands_of row.COMMA_NUMBER count_items t count_row (count_there t ok is)).2

pub no_count : (s : Context) (column : ℕ) (t : Text) → (first t == byte.comma) ≡ false → erased_in s column (maybe_tree (start.Code byte.comma) row.COMMA_NUMBER t) ≡ Ok 0
no_count s column t is = ap (erased_in s column) (left_out_tree (start.Code byte.comma) row.COMMA_NUMBER t (comma_fails t is))

pub no_count_rest : (t : Text) → (first t == byte.comma) ≡ false → after_maybe (start.Code byte.comma) row.COMMA_NUMBER t ≡ t
no_count_rest t is = left_out_rest (start.Code byte.comma) row.COMMA_NUMBER t (comma_fails t is)

-- the numbers of AT
abbrev place_items : List Item
place_items = Part row.SUM ∷ Sign byte.comma S13_SEPARATOR ∷ Part row.SUM ∷ Maybe (start.Code byte.comma) row.COMMA_NUMBER ∷ []

place_items_are : row_items row.AT_NUMBERS ≡ place_items
unfolding row_items
place_items_are = refl

-- what stands after the row, and after the column
abbrev after_row : Text → Text
after_row t = drop 1 (after_phrase row.SUM t)

pub place_row : (t : Text) → is_phrase row.AT_NUMBERS t ≡ true → is_phrase row.SUM t ≡ true
place_row t ok = (stands_of row.AT_NUMBERS place_items t place_items_are ok).0.0

pub place_column : (t : Text) → is_phrase row.AT_NUMBERS t ≡ true → is_phrase row.SUM (drop 1 (after_phrase row.SUM t)) ≡ true
place_column t ok = (stands_of row.AT_NUMBERS place_items t place_items_are ok).0.1.1.0

pub place_count : (t : Text) → is_phrase row.AT_NUMBERS t ≡ true → maybe_phrase (start.Code byte.comma) row.COMMA_NUMBER (after_phrase row.SUM (drop 1 (after_phrase row.SUM t))) ≡ true
place_count t ok = (maybe_then (start.Code byte.comma) row.COMMA_NUMBER (after_phrase row.SUM (after_row t)) (λ u. Unit {0}) (stands_of row.AT_NUMBERS place_items t place_items_are ok).0.1.1.1).0

pub place_is : (s : Context) (t : Text) → is_phrase row.AT_NUMBERS t ≡ true
    → place_in s (tree_at row.AT_NUMBERS t)
    ≡ (whole_in s 0 23 (tree_at row.SUM t) >>= (λ r. whole_in s 0 79 (tree_at row.SUM (drop 1 (after_phrase row.SUM t)))
    >>= (λ c. erased_in s c (maybe_tree (start.Code byte.comma) row.COMMA_NUMBER (after_phrase row.SUM (drop 1 (after_phrase row.SUM t)))) >>= (λ erase. Ok (shown.At r c erase)))))
unfolding maybe_tree
place_is s t ok = ap (place_in s) (stands_of row.AT_NUMBERS place_items t place_items_are ok).1

pub place_rest : (t : Text) → is_phrase row.AT_NUMBERS t ≡ true → after_phrase row.AT_NUMBERS t ≡ after_maybe (start.Code byte.comma) row.COMMA_NUMBER (after_phrase row.SUM (drop 1 (after_phrase row.SUM t)))
unfolding after_maybe
place_rest t ok = (stands_of row.AT_NUMBERS place_items t place_items_are ok).2

pub place_on_screen : (r c n : ℕ) → r ≤ 23 → c ≤ 79 → c + n ≤ 80 → is_on_screen (shown.At r c n) ≡ true
place_on_screen r c n row column room = rw (lt-ltb r 24 (omega (arith, row)), lt-ltb c 80 (omega (arith, column)), le-leb (c + n) 80 room) refl

-- AT
abbrev at_items : List Item
at_items = Word word.AT_OPEN ∷ Nest row.AT_NUMBERS ∷ Sign byte.closing S11_CLOSE ∷ []

at_row : row_items row.AT ≡ at_items
unfolding row_items
at_row = refl

pub at_numbers : (t : Text) → is_phrase row.AT t ≡ true → is_phrase row.AT_NUMBERS (drop 1 t) ≡ true
at_numbers t ok = (stands_of row.AT at_items t at_row ok).0.1.0

pub at_is : (s : Context) (t : Text) → is_phrase row.AT t ≡ true → at_in s (tree_at row.AT t) ≡ place_in s (tree_at row.AT_NUMBERS (drop 1 t))
at_is s t ok = ap (at_in s) (stands_of row.AT at_items t at_row ok).1

pub at_rest : (t : Text) → is_phrase row.AT t ≡ true → after_phrase row.AT t ≡ drop 1 (after_phrase row.AT_NUMBERS (drop 1 t))
at_rest t ok = (stands_of row.AT at_items t at_row ok).2

-- the numbers of BOX
abbrev size_items : List Item
size_items = Part row.SUM ∷ Sign byte.comma S13_SEPARATOR ∷ Part row.SUM ∷ []

size_items_are : row_items row.BOX_NUMBERS ≡ size_items
unfolding row_items
size_items_are = refl

pub size_rows : (t : Text) → is_phrase row.BOX_NUMBERS t ≡ true → is_phrase row.SUM t ≡ true
size_rows t ok = (stands_of row.BOX_NUMBERS size_items t size_items_are ok).0.0

pub size_columns : (t : Text) → is_phrase row.BOX_NUMBERS t ≡ true → is_phrase row.SUM (drop 1 (after_phrase row.SUM t)) ≡ true
size_columns t ok = (stands_of row.BOX_NUMBERS size_items t size_items_are ok).0.1.1.0

pub size_is : (s : Context) (t : Text) → is_phrase row.BOX_NUMBERS t ≡ true
    → outline_in s (tree_at row.BOX_NUMBERS t) ≡ (whole_in s 2 24 (tree_at row.SUM t) >>= (λ h. whole_in s 2 80 (tree_at row.SUM (drop 1 (after_phrase row.SUM t))) >>= (λ w. Ok (shown.Outline h w))))
size_is s t ok = ap (outline_in s) (stands_of row.BOX_NUMBERS size_items t size_items_are ok).1

pub size_rest : (t : Text) → is_phrase row.BOX_NUMBERS t ≡ true → after_phrase row.BOX_NUMBERS t ≡ after_phrase row.SUM (drop 1 (after_phrase row.SUM t))
size_rest t ok = (stands_of row.BOX_NUMBERS size_items t size_items_are ok).2

pub size_on_screen : (h w : ℕ) → 2 ≤ h → h ≤ 24 → 2 ≤ w → w ≤ 80 → is_on_screen (shown.Outline h w) ≡ true
size_on_screen h w a b c d = rw (le-leb 2 h a, le-leb h 24 b, le-leb 2 w c, le-leb w 80 d) refl

-- BOX
abbrev box_items : List Item
box_items = Word word.BOX_OPEN ∷ Nest row.BOX_NUMBERS ∷ Sign byte.closing S11_CLOSE ∷ []

box_row : row_items row.BOX ≡ box_items
unfolding row_items
box_row = refl

pub box_numbers : (t : Text) → is_phrase row.BOX t ≡ true → is_phrase row.BOX_NUMBERS (drop 1 t) ≡ true
box_numbers t ok = (stands_of row.BOX box_items t box_row ok).0.1.0

pub box_is : (s : Context) (t : Text) → is_phrase row.BOX t ≡ true → box_in s (tree_at row.BOX t) ≡ outline_in s (tree_at row.BOX_NUMBERS (drop 1 t))
box_is s t ok = ap (box_in s) (stands_of row.BOX box_items t box_row ok).1

pub box_rest : (t : Text) → is_phrase row.BOX t ≡ true → after_phrase row.BOX t ≡ drop 1 (after_phrase row.BOX_NUMBERS (drop 1 t))
box_rest t ok = (stands_of row.BOX box_items t box_row ok).2
