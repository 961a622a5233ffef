-- RESTORE by its row.
use Rattle.std.proofs.Common.{◌≡◌, ◌==◌, Bool, true, false, if◌then◌else◌, List, [], ◌∷◌, drop, get_or, Some, None, refl, ap, ◌∙◌}
use Rattle.b2_base.specs.Lexical.{first}
use Rattle.b2_base.specs.declared.codes.TheConstants.{S15_LINE_NUMBER}
use Rattle.b2_atom.specs.Words.{Text}
use Rattle.b2_atom.specs.Tokens.Token.{Coded}
use Rattle.b2_atom.specs.Tree.{Trees}
use Rattle.b2_atom.specs.Tree.Trees.{Done, Put, In}
use Rattle.b2_atom.specs.Grammar.{row_items, starts}
use Rattle.b2_atom.specs.declared.words.TheConstants as word
use Rattle.b2_atom.specs.declared.rows.TheConstants as row
use Rattle.b2_atom.specs.declared.forms.Start.TheVariants as start
use Rattle.b2_atom.specs.declared.forms.Leaf.TheVariants as leaf
use Rattle.b2_atom.specs.declared.forms.Item.{Item}
use Rattle.b2_atom.specs.declared.forms.Item.TheVariants.{Word, Typed, Maybe}
use Rattle.b2_rows.specs.Leaves.{is_leaf}
use Rattle.b2_rows.specs.Rows.{When, is_phrase, tree_at}
use Rattle.b2_rows.specs.Values.{line_of}
use Rattle.b2_rows.proofs.RowsRead.{stands_of}
use Rattle.b2_stmt_var.specs.Restoring.{line_to_restore}

taken_way : (b : Bool) (x y : Type 0) → b ≡ true → When b x y → x
taken_way true x y is h = h
taken_way false x y is h = cc

abbrev restore_items : List Item
restore_items = Word word.RESTORE ∷ Maybe (start.Code word.LINE) row.LINE_OF_DATA ∷ []

restore_row : row_items row.RESTORE ≡ restore_items
unfolding row_items
restore_row = refl

abbrev data_items : List Item
data_items = Word word.LINE ∷ Typed leaf.LineNumber S15_LINE_NUMBER ∷ []

data_row : row_items row.LINE_OF_DATA ≡ data_items
unfolding row_items
data_row = refl

pub restore_line : (t : Text) → is_phrase row.RESTORE t ≡ true → (first (drop 1 t) == word.LINE) ≡ true → is_leaf leaf.LineNumber (drop 1 (drop 1 t)) ≡ true
unfolding starts
restore_line t ok is = (stands_of row.LINE_OF_DATA data_items (drop 1 t) data_row (taken_way (first (drop 1 t) == word.LINE) _ _ is (stands_of row.RESTORE restore_items t restore_row ok).0.1).0).0.1.0

restore_by : (b c : Bool) (a : Trees) → b ≡ c → line_to_restore (Put (Coded word.RESTORE) (if b then In 1 a Done else In 0 Done Done)) ≡ (if c then line_to_restore (Put (Coded word.RESTORE) (In 1 a Done)) else None)
restore_by true true a is = refl
restore_by false false a is = refl
restore_by true false a is = cc
restore_by false true a is = cc

pub restore_with : (t : Text) → is_phrase row.RESTORE t ≡ true → (first (drop 1 t) == word.LINE) ≡ true
    → line_to_restore (tree_at row.RESTORE t) ≡ Some (line_of (get_or (drop 1 (drop 1 t)) 1 0) (get_or (drop 1 (drop 1 t)) 2 0))
unfolding starts
restore_with t ok is =
    let r = stands_of row.RESTORE restore_items t restore_row ok in
    let part = (taken_way (first (drop 1 t) == word.LINE) _ _ is r.0.1).0 in
    ap line_to_restore r.1 ∙ restore_by (first (drop 1 t) == word.LINE) true (tree_at row.LINE_OF_DATA (drop 1 t)) is
    ∙ ap (λ (a : Trees). line_to_restore (Put (Coded word.RESTORE) (In 1 a Done))) (stands_of row.LINE_OF_DATA data_items (drop 1 t) data_row part).1

pub restore_without : (t : Text) → is_phrase row.RESTORE t ≡ true → (first (drop 1 t) == word.LINE) ≡ false → line_to_restore (tree_at row.RESTORE t) ≡ None
unfolding starts
restore_without t ok is = ap line_to_restore (stands_of row.RESTORE restore_items t restore_row ok).1 ∙ restore_by (first (drop 1 t) == word.LINE) false (tree_at row.LINE_OF_DATA (drop 1 t)) is
