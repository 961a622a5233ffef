-- DEFFN @PART and SELECT @PART by their rows: where the name stands that they declare or select.
use Rattle.std.proofs.Common.{◌≡◌, ◌∙◌, ◌==◌, Bool, true, false, if◌then◌else◌, List, [], ◌∷◌, drop, None, refl, ap}
use Rattle.b2_base.specs.Lexical.{first}
use Rattle.b2_base.specs.declared.codes.TheConstants.{S18_ALPHA}
use Rattle.b2_atom.specs.Words.{Text}
use Rattle.b2_atom.specs.Tokens.Token.{Coded}
use Rattle.b2_atom.specs.Tree.{Trees}
use Rattle.b2_atom.specs.Tree.Trees.{Done, Put, In}
use Rattle.b2_atom.specs.Grammar.{row_items, starts}
use Rattle.b2_atom.specs.declared.words.TheConstants as word
use Rattle.b2_atom.specs.declared.rows.TheConstants as row
use Rattle.b2_atom.specs.declared.forms.Leaf.TheVariants as leaf
use Rattle.b2_atom.specs.declared.forms.Start.TheVariants as start
use Rattle.b2_atom.specs.declared.forms.Item.{Item}
use Rattle.b2_atom.specs.declared.forms.Item.TheVariants.{Either, Part, Typed, Word}
use Rattle.b2_base.specs.Names.{name8_of}
use Rattle.b2_rows.specs.Leaves.{is_leaf, leaf_bytes}
use Rattle.b2_rows.specs.Rows.{When, is_phrase, tree_at}
use Rattle.b2_rows.specs.Values.{literal_of}
use Rattle.b2_rows.proofs.RowsRead.{stands_of}
use Rattle.b2_stmt.specs.Parts.{declared_by, part_name, selected_by}

-- the literal after @PART
abbrev literal_items : List Item
literal_items = Typed leaf.Literal S18_ALPHA ∷ []

literal_row : row_items row.LITERAL ≡ literal_items
unfolding row_items
literal_row = refl

abbrev part_items : List Item
part_items = Word word.GLOBAL_PART ∷ Part row.LITERAL ∷ []

part_row : row_items row.GLOBAL_PART ≡ part_items
unfolding row_items
part_row = refl

literal_part : (t : Text) → is_phrase row.GLOBAL_PART t ≡ true → is_phrase row.LITERAL (drop 1 t) ≡ true
literal_part t ok = (stands_of row.GLOBAL_PART part_items t part_row ok).0.1.0

pub part_literal : (t : Text) → is_phrase row.GLOBAL_PART t ≡ true → is_leaf leaf.Literal (drop 1 t) ≡ true
part_literal t ok = (stands_of row.LITERAL literal_items (drop 1 t) literal_row (literal_part t ok)).0.0

pub part_is : (t : Text) → is_phrase row.GLOBAL_PART t ≡ true → part_name (tree_at row.GLOBAL_PART t) ≡ name8_of (literal_of (leaf_bytes leaf.Literal (drop 1 t)))
part_is t ok =
    ap part_name (stands_of row.GLOBAL_PART part_items t part_row ok).1
    ∙ ap (λ (u : Trees). part_name (Put (Coded word.GLOBAL_PART) (In 0 u Done))) (stands_of row.LITERAL literal_items (drop 1 t) literal_row (literal_part t ok)).1

-- DEFFN
abbrev function_items : List Item
function_items = Word word.DEFFN ∷ Either (start.Code word.GLOBAL_PART) row.GLOBAL_PART row.FUNCTION_BODY ∷ []

function_row : row_items row.DEFFN ≡ function_items
unfolding row_items
function_row = refl

first_by : (b : Bool) (x y : Type 0) → b ≡ true → When b (x × Unit {0}) (y × Unit {0}) → x
first_by true x y is h = h.0
first_by false x y is h = cc

pub declared_part : (t : Text) → is_phrase row.DEFFN t ≡ true → (first (drop 1 t) == word.GLOBAL_PART) ≡ true → is_phrase row.GLOBAL_PART (drop 1 t) ≡ true
unfolding starts
declared_part t ok is = first_by (first (drop 1 t) == word.GLOBAL_PART) _ _ is (stands_of row.DEFFN function_items t function_row ok).0.1

declared_with : (b c : Bool) (x y : Trees) → b ≡ c → declared_by (Put (Coded word.DEFFN) (if b then In 1 x Done else In 0 y Done)) ≡ (if c then part_name x else None)
declared_with true true x y is = refl
declared_with false false x y is = refl
declared_with true false x y is = cc
declared_with false true x y is = cc

pub declared_is : (t : Text) → is_phrase row.DEFFN t ≡ true → (first (drop 1 t) == word.GLOBAL_PART) ≡ true → declared_by (tree_at row.DEFFN t) ≡ part_name (tree_at row.GLOBAL_PART (drop 1 t))
unfolding starts
declared_is t ok is =
    ap declared_by (stands_of row.DEFFN function_items t function_row ok).1
    ∙ declared_with (first (drop 1 t) == word.GLOBAL_PART) true (tree_at row.GLOBAL_PART (drop 1 t)) (tree_at row.FUNCTION_BODY (drop 1 t)) is

pub function_is : (t : Text) → is_phrase row.DEFFN t ≡ true → (first (drop 1 t) == word.GLOBAL_PART) ≡ false → declared_by (tree_at row.DEFFN t) ≡ None
unfolding starts
function_is t ok is =
    ap declared_by (stands_of row.DEFFN function_items t function_row ok).1
    ∙ declared_with (first (drop 1 t) == word.GLOBAL_PART) false (tree_at row.GLOBAL_PART (drop 1 t)) (tree_at row.FUNCTION_BODY (drop 1 t)) is

-- SELECT @PART
abbrev select_items : List Item
select_items = Word word.SELECT ∷ Part row.GLOBAL_PART ∷ []

select_row : row_items row.SELECT_PART ≡ select_items
unfolding row_items
select_row = refl

pub selected_part : (t : Text) → is_phrase row.SELECT_PART t ≡ true → is_phrase row.GLOBAL_PART (drop 1 t) ≡ true
selected_part t ok = (stands_of row.SELECT_PART select_items t select_row ok).0.1.0

pub selected_is : (t : Text) → is_phrase row.SELECT_PART t ≡ true → selected_by (tree_at row.SELECT_PART t) ≡ part_name (tree_at row.GLOBAL_PART (drop 1 t))
selected_is t ok = ap selected_by (stands_of row.SELECT_PART select_items t select_row ok).1
