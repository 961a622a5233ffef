-- The items of PRINT by their rows: TAB, HEXOF, and values of either kind.
use Rattle.std.proofs.Common.{◌≡◌, ℕ, ◌==◌, true, false, List, [], ◌∷◌, drop, refl, ap, ◌∙◌, Ok}
use Rattle.b2_base.specs.Byte as byte
use Rattle.b2_base.specs.Lexical.{first}
use Rattle.b2_base.specs.declared.codes.TheConstants.{S11_CLOSE}
use Rattle.b2_atom.specs.Words.{Text}
use Rattle.b2_atom.specs.Tree.{Trees}
use Rattle.b2_atom.specs.Grammar.{row_items, starts}
use Rattle.b2_atom.specs.declared.words.Origin.TheVariants.{Atoms}
use Rattle.b2_atom.specs.declared.words.TheConstants as word
use Rattle.b2_atom.specs.declared.rows.TheConstants as row
use Rattle.b2_atom.specs.declared.forms.Start.TheVariants as start
use Rattle.b2_atom.specs.declared.forms.Item.{Item}
use Rattle.b2_atom.specs.declared.forms.Item.TheVariants.{Word, Sign, Nest}
use Rattle.b2_rows.specs.Rows.{is_phrase, tree_at, after_phrase}
use Rattle.b2_rows.specs.Choices.{ReadAs, first_branch, second_branch}
use Rattle.b2_rows.proofs.Choices.{either_first, either_second}
use Rattle.b2_expr.specs.Answers.{◌>>=◌}
use Rattle.b2_expr.specs.Functions.{whole_between}
use Rattle.b2_expr.specs.Scope.{Context}
use Rattle.b2_expr.specs.Value.{text, value}
use Rattle.b2_expr.specs.declared.operators.Level.TheVariants as level
use Rattle.b2_rows.proofs.RowsRead.{stands_of}
use Rattle.b2_print.specs.declared.layout.Item.TheVariants as shown
use Rattle.b2_stmt_io.specs.Printing.{Page, alpha_in, at_in, box_in, but_hexof_in, hex_in, hex_item, item_of, number_in, on_screen, tab_in}

-- TAB
abbrev tab_items : List Item
tab_items = Word word.TAB_OPEN ∷ Nest row.SUM ∷ Sign byte.closing S11_CLOSE ∷ []

tab_row : row_items row.TAB ≡ tab_items
unfolding row_items
tab_row = refl

pub tab_sum : (t : Text) → is_phrase row.TAB t ≡ true → is_phrase row.SUM (drop 1 t) ≡ true
tab_sum t ok = (stands_of row.TAB tab_items t tab_row ok).0.1.0

pub tab_is : (s : Context) (t : Text) → is_phrase row.TAB t ≡ true
    → tab_in s (tree_at row.TAB t) ≡ (value s level.Sum (tree_at row.SUM (drop 1 t)) >>= (λ x. whole_between 0 255 x >>= (λ to. Ok (shown.Tab to))))
tab_is s t ok = ap (tab_in s) (stands_of row.TAB tab_items t tab_row ok).1

pub tab_rest : (t : Text) → is_phrase row.TAB t ≡ true → after_phrase row.TAB t ≡ drop 1 (after_phrase row.SUM (drop 1 t))
tab_rest t ok = (stands_of row.TAB tab_items t tab_row ok).2

-- HEXOF
abbrev hex_items : List Item
hex_items = Word word.HEXOF_OPEN ∷ Nest row.ALPHA ∷ Sign byte.closing S11_CLOSE ∷ []

hex_row : row_items row.HEXOF ≡ hex_items
unfolding row_items
hex_row = refl

pub hex_alpha : (t : Text) → is_phrase row.HEXOF t ≡ true → is_phrase row.ALPHA (drop 1 t) ≡ true
hex_alpha t ok = (stands_of row.HEXOF hex_items t hex_row ok).0.1.0

pub hex_is : (s : Context) (t : Text) → is_phrase row.HEXOF t ≡ true → hex_in s (tree_at row.HEXOF t) ≡ (text s (tree_at row.ALPHA (drop 1 t)) >>= (λ bytes. Ok (hex_item bytes)))
hex_is s t ok = ap (hex_in s) (stands_of row.HEXOF hex_items t hex_row ok).1

pub hex_rest : (t : Text) → is_phrase row.HEXOF t ≡ true → after_phrase row.HEXOF t ≡ drop 1 (after_phrase row.ALPHA (drop 1 t))
hex_rest t ok = (stands_of row.HEXOF hex_items t hex_row ok).2

-- an item is TAB, or else HEXOF, or else AT, or else BOX, or else an alpha expression, or else a number
is_tab : (t : Text) → is_phrase row.PRINT_ITEM t ≡ true → (first t == word.TAB_OPEN) ≡ true → ReadAs row.PRINT_ITEM row.TAB first_branch t
unfolding row_items starts
is_tab t ok is = either_first row.PRINT_ITEM row.TAB row.PRINT_BUT_TAB (start.Code word.TAB_OPEN) t refl ok is

no_tab : (t : Text) → is_phrase row.PRINT_ITEM t ≡ true → (first t == word.TAB_OPEN) ≡ false → ReadAs row.PRINT_ITEM row.PRINT_BUT_TAB second_branch t
unfolding row_items starts
no_tab t ok is = either_second row.PRINT_ITEM row.TAB row.PRINT_BUT_TAB (start.Code word.TAB_OPEN) t refl ok is

is_hex : (t : Text) → is_phrase row.PRINT_BUT_TAB t ≡ true → (first t == word.HEXOF_OPEN) ≡ true → ReadAs row.PRINT_BUT_TAB row.HEXOF first_branch t
unfolding row_items starts
is_hex t ok is = either_first row.PRINT_BUT_TAB row.HEXOF row.PRINT_BUT_HEXOF (start.Code word.HEXOF_OPEN) t refl ok is

no_hex : (t : Text) → is_phrase row.PRINT_BUT_TAB t ≡ true → (first t == word.HEXOF_OPEN) ≡ false → ReadAs row.PRINT_BUT_TAB row.PRINT_BUT_HEXOF second_branch t
unfolding row_items starts
no_hex t ok is = either_second row.PRINT_BUT_TAB row.HEXOF row.PRINT_BUT_HEXOF (start.Code word.HEXOF_OPEN) t refl ok is

is_place : (t : Text) → is_phrase row.PRINT_BUT_HEXOF t ≡ true → (first t == word.AT_OPEN) ≡ true → ReadAs row.PRINT_BUT_HEXOF row.AT first_branch t
unfolding row_items starts
is_place t ok is = either_first row.PRINT_BUT_HEXOF row.AT row.PRINT_BUT_AT (start.Code word.AT_OPEN) t refl ok is

no_place : (t : Text) → is_phrase row.PRINT_BUT_HEXOF t ≡ true → (first t == word.AT_OPEN) ≡ false → ReadAs row.PRINT_BUT_HEXOF row.PRINT_BUT_AT second_branch t
unfolding row_items starts
no_place t ok is = either_second row.PRINT_BUT_HEXOF row.AT row.PRINT_BUT_AT (start.Code word.AT_OPEN) t refl ok is

is_outline : (t : Text) → is_phrase row.PRINT_BUT_AT t ≡ true → (first t == word.BOX_OPEN) ≡ true → ReadAs row.PRINT_BUT_AT row.BOX first_branch t
unfolding row_items starts
is_outline t ok is = either_first row.PRINT_BUT_AT row.BOX row.OPERAND_OF_ANY_KIND (start.Code word.BOX_OPEN) t refl ok is

no_outline : (t : Text) → is_phrase row.PRINT_BUT_AT t ≡ true → (first t == word.BOX_OPEN) ≡ false → ReadAs row.PRINT_BUT_AT row.OPERAND_OF_ANY_KIND second_branch t
unfolding row_items starts
no_outline t ok is = either_second row.PRINT_BUT_AT row.BOX row.OPERAND_OF_ANY_KIND (start.Code word.BOX_OPEN) t refl ok is

pub is_bytes : (t : Text) → is_phrase row.OPERAND_OF_ANY_KIND t ≡ true → starts Atoms start.Alpha t ≡ true → ReadAs row.OPERAND_OF_ANY_KIND row.ALPHA first_branch t
unfolding row_items
is_bytes t ok is = either_first row.OPERAND_OF_ANY_KIND row.ALPHA row.SUM start.Alpha t refl ok is

pub is_number : (t : Text) → is_phrase row.OPERAND_OF_ANY_KIND t ≡ true → starts Atoms start.Alpha t ≡ false → ReadAs row.OPERAND_OF_ANY_KIND row.SUM second_branch t
unfolding row_items
is_number t ok is = either_second row.OPERAND_OF_ANY_KIND row.ALPHA row.SUM start.Alpha t refl ok is

-- a choice in a choice
in_both : (n m k : ℕ) (f g : Trees → Trees) (t : Text) → ReadAs n m f t → ReadAs m k g t → ReadAs n k (λ a. f (g a)) t
in_both n m k f g t a b = record { part = b.part; tree = a.tree ∙ ap f b.tree; rest = a.rest ∙ b.rest }

as_hex : (t : Text) → is_phrase row.PRINT_ITEM t ≡ true → (first t == word.TAB_OPEN) ≡ false → (first t == word.HEXOF_OPEN) ≡ true → ReadAs row.PRINT_ITEM row.HEXOF (λ a. second_branch (first_branch a)) t
as_hex t ok tab hex = let a = no_tab t ok tab in in_both row.PRINT_ITEM row.PRINT_BUT_TAB row.HEXOF second_branch first_branch t a (is_hex t a.part hex)

as_other : (t : Text) → is_phrase row.PRINT_ITEM t ≡ true → (first t == word.TAB_OPEN) ≡ false → (first t == word.HEXOF_OPEN) ≡ false → ReadAs row.PRINT_ITEM row.PRINT_BUT_HEXOF (λ a. second_branch (second_branch a)) t
as_other t ok tab hex = let a = no_tab t ok tab in in_both row.PRINT_ITEM row.PRINT_BUT_TAB row.PRINT_BUT_HEXOF second_branch second_branch t a (no_hex t a.part hex)

pub item_tab : (t : Text) → is_phrase row.PRINT_ITEM t ≡ true → (first t == word.TAB_OPEN) ≡ true → is_phrase row.TAB t ≡ true
item_tab t ok is = ReadAs.part (is_tab t ok is)

pub item_tab_is : (s : Page) (t : Text) → is_phrase row.PRINT_ITEM t ≡ true → (first t == word.TAB_OPEN) ≡ true → item_of s (tree_at row.PRINT_ITEM t) ≡ tab_in s.context (tree_at row.TAB t)
item_tab_is s t ok is = ap (item_of s) (ReadAs.tree (is_tab t ok is))

pub item_tab_rest : (t : Text) → is_phrase row.PRINT_ITEM t ≡ true → (first t == word.TAB_OPEN) ≡ true → after_phrase row.PRINT_ITEM t ≡ after_phrase row.TAB t
item_tab_rest t ok is = ReadAs.rest (is_tab t ok is)

pub item_hex : (t : Text) → is_phrase row.PRINT_ITEM t ≡ true → (first t == word.TAB_OPEN) ≡ false → (first t == word.HEXOF_OPEN) ≡ true → is_phrase row.HEXOF t ≡ true
item_hex t ok tab is = ReadAs.part (as_hex t ok tab is)

pub item_hex_is : (s : Page) (t : Text) → is_phrase row.PRINT_ITEM t ≡ true → (first t == word.TAB_OPEN) ≡ false → (first t == word.HEXOF_OPEN) ≡ true → item_of s (tree_at row.PRINT_ITEM t) ≡ hex_in s.context (tree_at row.HEXOF t)
item_hex_is s t ok tab is = ap (item_of s) (ReadAs.tree (as_hex t ok tab is))

pub item_hex_rest : (t : Text) → is_phrase row.PRINT_ITEM t ≡ true → (first t == word.TAB_OPEN) ≡ false → (first t == word.HEXOF_OPEN) ≡ true → after_phrase row.PRINT_ITEM t ≡ after_phrase row.HEXOF t
item_hex_rest t ok tab is = ReadAs.rest (as_hex t ok tab is)

pub item_other : (t : Text) → is_phrase row.PRINT_ITEM t ≡ true → (first t == word.TAB_OPEN) ≡ false → (first t == word.HEXOF_OPEN) ≡ false → is_phrase row.PRINT_BUT_HEXOF t ≡ true
item_other t ok tab hex = ReadAs.part (as_other t ok tab hex)

pub item_other_is : (s : Page) (t : Text) → is_phrase row.PRINT_ITEM t ≡ true → (first t == word.TAB_OPEN) ≡ false → (first t == word.HEXOF_OPEN) ≡ false → item_of s (tree_at row.PRINT_ITEM t) ≡ but_hexof_in s (tree_at row.PRINT_BUT_HEXOF t)
item_other_is s t ok tab hex = ap (item_of s) (ReadAs.tree (as_other t ok tab hex))

pub item_other_rest : (t : Text) → is_phrase row.PRINT_ITEM t ≡ true → (first t == word.TAB_OPEN) ≡ false → (first t == word.HEXOF_OPEN) ≡ false → after_phrase row.PRINT_ITEM t ≡ after_phrase row.PRINT_BUT_HEXOF t
item_other_rest t ok tab hex = ReadAs.rest (as_other t ok tab hex)

-- one that is neither TAB nor HEXOF
as_outline : (t : Text) → is_phrase row.PRINT_BUT_HEXOF t ≡ true → (first t == word.AT_OPEN) ≡ false → (first t == word.BOX_OPEN) ≡ true → ReadAs row.PRINT_BUT_HEXOF row.BOX (λ a. second_branch (first_branch a)) t
as_outline t ok at is = let a = no_place t ok at in in_both row.PRINT_BUT_HEXOF row.PRINT_BUT_AT row.BOX second_branch first_branch t a (is_outline t a.part is)

as_value : (t : Text) → is_phrase row.PRINT_BUT_HEXOF t ≡ true → (first t == word.AT_OPEN) ≡ false → (first t == word.BOX_OPEN) ≡ false → ReadAs row.PRINT_BUT_HEXOF row.OPERAND_OF_ANY_KIND (λ a. second_branch (second_branch a)) t
as_value t ok at box = let a = no_place t ok at in in_both row.PRINT_BUT_HEXOF row.PRINT_BUT_AT row.OPERAND_OF_ANY_KIND second_branch second_branch t a (no_outline t a.part box)

as_bytes : (t : Text) → is_phrase row.PRINT_BUT_HEXOF t ≡ true → (first t == word.AT_OPEN) ≡ false → (first t == word.BOX_OPEN) ≡ false → starts Atoms start.Alpha t ≡ true
    → ReadAs row.PRINT_BUT_HEXOF row.ALPHA (λ a. second_branch (second_branch (first_branch a))) t
as_bytes t ok at box is =
    let a = as_value t ok at box in in_both row.PRINT_BUT_HEXOF row.OPERAND_OF_ANY_KIND row.ALPHA (λ b. second_branch (second_branch b)) first_branch t a (is_bytes t a.part is)

as_number : (t : Text) → is_phrase row.PRINT_BUT_HEXOF t ≡ true → (first t == word.AT_OPEN) ≡ false → (first t == word.BOX_OPEN) ≡ false → starts Atoms start.Alpha t ≡ false
    → ReadAs row.PRINT_BUT_HEXOF row.SUM (λ a. second_branch (second_branch (second_branch a))) t
as_number t ok at box is =
    let a = as_value t ok at box in in_both row.PRINT_BUT_HEXOF row.OPERAND_OF_ANY_KIND row.SUM (λ b. second_branch (second_branch b)) second_branch t a (is_number t a.part is)

pub other_at : (t : Text) → is_phrase row.PRINT_BUT_HEXOF t ≡ true → (first t == word.AT_OPEN) ≡ true → is_phrase row.AT t ≡ true
other_at t ok is = ReadAs.part (is_place t ok is)

pub other_at_is : (s : Page) (t : Text) → is_phrase row.PRINT_BUT_HEXOF t ≡ true → (first t == word.AT_OPEN) ≡ true → but_hexof_in s (tree_at row.PRINT_BUT_HEXOF t) ≡ on_screen s.outlet (at_in s.context (tree_at row.AT t))
other_at_is s t ok is = ap (but_hexof_in s) (ReadAs.tree (is_place t ok is))

pub other_at_rest : (t : Text) → is_phrase row.PRINT_BUT_HEXOF t ≡ true → (first t == word.AT_OPEN) ≡ true → after_phrase row.PRINT_BUT_HEXOF t ≡ after_phrase row.AT t
other_at_rest t ok is = ReadAs.rest (is_place t ok is)

pub other_box : (t : Text) → is_phrase row.PRINT_BUT_HEXOF t ≡ true → (first t == word.AT_OPEN) ≡ false → (first t == word.BOX_OPEN) ≡ true → is_phrase row.BOX t ≡ true
other_box t ok at is = ReadAs.part (as_outline t ok at is)

pub other_box_is : (s : Page) (t : Text) → is_phrase row.PRINT_BUT_HEXOF t ≡ true → (first t == word.AT_OPEN) ≡ false → (first t == word.BOX_OPEN) ≡ true → but_hexof_in s (tree_at row.PRINT_BUT_HEXOF t) ≡ on_screen s.outlet (box_in s.context (tree_at row.BOX t))
other_box_is s t ok at is = ap (but_hexof_in s) (ReadAs.tree (as_outline t ok at is))

pub other_box_rest : (t : Text) → is_phrase row.PRINT_BUT_HEXOF t ≡ true → (first t == word.AT_OPEN) ≡ false → (first t == word.BOX_OPEN) ≡ true → after_phrase row.PRINT_BUT_HEXOF t ≡ after_phrase row.BOX t
other_box_rest t ok at is = ReadAs.rest (as_outline t ok at is)

pub other_alpha : (t : Text) → is_phrase row.PRINT_BUT_HEXOF t ≡ true → (first t == word.AT_OPEN) ≡ false → (first t == word.BOX_OPEN) ≡ false → starts Atoms start.Alpha t ≡ true → is_phrase row.ALPHA t ≡ true
other_alpha t ok at box is = ReadAs.part (as_bytes t ok at box is)

pub other_alpha_is : (s : Page) (t : Text) → is_phrase row.PRINT_BUT_HEXOF t ≡ true → (first t == word.AT_OPEN) ≡ false → (first t == word.BOX_OPEN) ≡ false → starts Atoms start.Alpha t ≡ true → but_hexof_in s (tree_at row.PRINT_BUT_HEXOF t) ≡ alpha_in s.context (tree_at row.ALPHA t)
other_alpha_is s t ok at box is = ap (but_hexof_in s) (ReadAs.tree (as_bytes t ok at box is))

pub other_alpha_rest : (t : Text) → is_phrase row.PRINT_BUT_HEXOF t ≡ true → (first t == word.AT_OPEN) ≡ false → (first t == word.BOX_OPEN) ≡ false → starts Atoms start.Alpha t ≡ true → after_phrase row.PRINT_BUT_HEXOF t ≡ after_phrase row.ALPHA t
other_alpha_rest t ok at box is = ReadAs.rest (as_bytes t ok at box is)

pub other_number : (t : Text) → is_phrase row.PRINT_BUT_HEXOF t ≡ true → (first t == word.AT_OPEN) ≡ false → (first t == word.BOX_OPEN) ≡ false → starts Atoms start.Alpha t ≡ false → is_phrase row.SUM t ≡ true
other_number t ok at box is = ReadAs.part (as_number t ok at box is)

pub other_number_is : (s : Page) (t : Text) → is_phrase row.PRINT_BUT_HEXOF t ≡ true → (first t == word.AT_OPEN) ≡ false → (first t == word.BOX_OPEN) ≡ false → starts Atoms start.Alpha t ≡ false → but_hexof_in s (tree_at row.PRINT_BUT_HEXOF t) ≡ number_in s.context (tree_at row.SUM t)
other_number_is s t ok at box is = ap (but_hexof_in s) (ReadAs.tree (as_number t ok at box is))

pub other_number_rest : (t : Text) → is_phrase row.PRINT_BUT_HEXOF t ≡ true → (first t == word.AT_OPEN) ≡ false → (first t == word.BOX_OPEN) ≡ false → starts Atoms start.Alpha t ≡ false → after_phrase row.PRINT_BUT_HEXOF t ≡ after_phrase row.SUM t
other_number_rest t ok at box is = ReadAs.rest (as_number t ok at box is)
