-- STOP and RUN, by their rows.
use Rattle.std.proofs.Common.{◌≡◌, ◌==◌, Bool, true, false, if◌then◌else◌, List, [], ◌∷◌, drop, get_or, Some, None, refl, ap, ◌∙◌}
use Rattle.b2_base.specs.Byte as byte
use Rattle.b2_base.specs.Lexical.{first}
use Rattle.b2_base.specs.declared.codes.TheConstants.{S18_ALPHA}
use Rattle.b2_atom.specs.Words.{Text}
use Rattle.b2_atom.specs.Tokens.Token.{Coded, Plain}
use Rattle.b2_atom.specs.Tree.{Trees}
use Rattle.b2_atom.specs.Tree.Trees.{Done, Put, In}
use Rattle.b2_atom.specs.Grammar.{row_items, starts}
use Rattle.b2_atom.specs.declared.words.Origin.TheVariants.{Atoms}
use Rattle.b2_atom.specs.declared.words.TheConstants as word
use Rattle.b2_atom.specs.declared.rows.TheConstants as row
use Rattle.b2_atom.specs.declared.forms.Start.TheVariants as start
use Rattle.b2_atom.specs.declared.forms.Leaf.TheVariants as leaf
use Rattle.b2_atom.specs.declared.forms.Item.{Item}
use Rattle.b2_atom.specs.declared.forms.Item.TheVariants.{Word, Typed, Maybe}
use Rattle.b2_rows.specs.Leaves.{is_leaf, leaf_bytes}
use Rattle.b2_rows.specs.Rows.{is_phrase, tree_at}
use Rattle.b2_rows.specs.Values.{line_of, literal_of}
use Rattle.b2_rows.proofs.RowsRead.{stands_of}
use Rattle.b2_rows.specs.LineNumbers.{line_in}
use Rattle.b2_stmt.specs.RunControl.{text_of_stop, line_to_run}
use Rattle.b2_stmt.proofs.BranchRows.{line_here, line_number, taken_way}

-- STOP
abbrev stop_items : List Item
stop_items = Word word.STOP ∷ Maybe (start.Code byte.quote) row.LITERAL ∷ []

stop_row : row_items row.STOP ≡ stop_items
unfolding row_items
stop_row = refl

abbrev literal_items : List Item
literal_items = Typed leaf.Literal S18_ALPHA ∷ []

literal_row : row_items row.LITERAL ≡ literal_items
unfolding row_items
literal_row = refl

pub literal_here : (t : Text) → is_phrase row.LITERAL t ≡ true → is_leaf leaf.Literal t ≡ true
literal_here t ok = (stands_of row.LITERAL literal_items t literal_row ok).0.0

pub literal_tree : (t : Text) → is_phrase row.LITERAL t ≡ true → tree_at row.LITERAL t ≡ Put (Plain leaf.Literal (leaf_bytes leaf.Literal t)) Done
literal_tree t ok = (stands_of row.LITERAL literal_items t literal_row ok).1

pub stop_literal : (t : Text) → is_phrase row.STOP t ≡ true → (first (drop 1 t) == byte.quote) ≡ true → is_leaf leaf.Literal (drop 1 t) ≡ true
unfolding starts
stop_literal t ok is = literal_here (drop 1 t) (taken_way (first (drop 1 t) == byte.quote) _ _ is (stands_of row.STOP stop_items t stop_row ok).0.1).0

stop_by : (b c : Bool) (a : Trees) → b ≡ c → text_of_stop (Put (Coded word.STOP) (if b then In 1 a Done else In 0 Done Done)) ≡ (if c then text_of_stop (Put (Coded word.STOP) (In 1 a Done)) else None)
stop_by true true a is = refl
stop_by false false a is = refl
stop_by true false a is = cc
stop_by false true a is = cc

pub stop_with : (t : Text) → is_phrase row.STOP t ≡ true → (first (drop 1 t) == byte.quote) ≡ true → text_of_stop (tree_at row.STOP t) ≡ Some (literal_of (leaf_bytes leaf.Literal (drop 1 t)))
unfolding starts
stop_with t ok is =
    let r = stands_of row.STOP stop_items t stop_row ok in
    ap text_of_stop r.1 ∙ stop_by (first (drop 1 t) == byte.quote) true (tree_at row.LITERAL (drop 1 t)) is
    ∙ ap (λ (a : Trees). text_of_stop (Put (Coded word.STOP) (In 1 a Done))) (literal_tree (drop 1 t) (taken_way (first (drop 1 t) == byte.quote) _ _ is r.0.1).0)

pub stop_without : (t : Text) → is_phrase row.STOP t ≡ true → (first (drop 1 t) == byte.quote) ≡ false → text_of_stop (tree_at row.STOP t) ≡ None
unfolding starts
stop_without t ok is = ap text_of_stop (stands_of row.STOP stop_items t stop_row ok).1 ∙ stop_by (first (drop 1 t) == byte.quote) false (tree_at row.LITERAL (drop 1 t)) is

-- RUN
abbrev run_items : List Item
run_items = Word word.RUN ∷ Maybe start.Line row.LINE_NUMBER ∷ []

run_row : row_items row.RUN ≡ run_items
unfolding row_items
run_row = refl

pub run_line : (t : Text) → is_phrase row.RUN t ≡ true → starts Atoms start.Line (drop 1 t) ≡ true → is_leaf leaf.LineNumber (drop 1 t) ≡ true
run_line t ok is = line_here (drop 1 t) (taken_way (starts Atoms start.Line (drop 1 t)) _ _ is (stands_of row.RUN run_items t run_row ok).0.1).0

run_by : (b c : Bool) (a : Trees) → b ≡ c → line_to_run (Put (Coded word.RUN) (if b then In 1 a Done else In 0 Done Done)) ≡ (if c then Some (line_in a) else None)
run_by true true a is = refl
run_by false false a is = refl
run_by true false a is = cc
run_by false true a is = cc

pub run_with : (t : Text) → is_phrase row.RUN t ≡ true → starts Atoms start.Line (drop 1 t) ≡ true → line_to_run (tree_at row.RUN t) ≡ Some (line_of (get_or (drop 1 t) 1 0) (get_or (drop 1 t) 2 0))
run_with t ok is =
    let r = stands_of row.RUN run_items t run_row ok in
    ap line_to_run r.1 ∙ run_by (starts Atoms start.Line (drop 1 t)) true (tree_at row.LINE_NUMBER (drop 1 t)) is
    ∙ ap Some (line_number (drop 1 t) (taken_way (starts Atoms start.Line (drop 1 t)) _ _ is r.0.1).0)

pub run_without : (t : Text) → is_phrase row.RUN t ≡ true → starts Atoms start.Line (drop 1 t) ≡ false → line_to_run (tree_at row.RUN t) ≡ None
run_without t ok is = ap line_to_run (stands_of row.RUN run_items t run_row ok).1 ∙ run_by (starts Atoms start.Line (drop 1 t)) false (tree_at row.LINE_NUMBER (drop 1 t)) is
