-- KEYIN by its row: its receiver, and the lines that may be named.
use Rattle.std.proofs.Common.{◌≡◌, ℕ, ◌==◌, Bool, true, false, if◌then◌else◌, List, [], ◌∷◌, drop, get_or, Ok, refl, ap, ◌∙◌}
use Rattle.b2_base.specs.Byte as byte
use Rattle.b2_base.specs.Lexical.{first}
use Rattle.b2_base.specs.declared.codes.TheConstants.{S13_SEPARATOR, S15_LINE_NUMBER}
use Rattle.b2_atom.specs.Words.{Text}
use Rattle.b2_atom.specs.Tokens.Token.{Coded}
use Rattle.b2_atom.specs.Tree.{Trees}
use Rattle.b2_atom.specs.Tree.Trees.{Done, Put, In}
use Rattle.b2_atom.specs.Grammar.{row_items, starts}
use Rattle.b2_atom.specs.declared.words.Origin.TheVariants.{Atoms}
use Rattle.b2_atom.specs.declared.words.TheConstants as word
use Rattle.b2_atom.specs.declared.rows.TheConstants as row
use Rattle.b2_atom.specs.declared.forms.Start.TheVariants as start
use Rattle.b2_atom.specs.declared.forms.Leaf.TheVariants as leaf
use Rattle.b2_atom.specs.declared.forms.Item.{Item}
use Rattle.b2_atom.specs.declared.forms.Item.TheVariants.{Word, Sign, Typed, Part, Maybe}
use Rattle.b2_rows.specs.Leaves.{is_leaf}
use Rattle.b2_rows.specs.Rows.{is_phrase, tree_at, after_phrase}
use Rattle.b2_rows.specs.Optional.{maybe_phrase, maybe_tree}
use Rattle.b2_rows.specs.Values.{line_of}
use Rattle.b2_rows.proofs.Optional.{maybe_stands, begun_part, begun_tree, left_out_tree}
use Rattle.b2_rows.proofs.RowsRead.{stands_of}
use Rattle.b2_flow.specs.declared.frame.Place.{Place}
use Rattle.b2_text.specs.Program.{Lines}
use Rattle.b2_access.specs.declared.planned.Outcome.TheVariants as outcome
use Rattle.b2_access.specs.Jumps.{to_line}
use Rattle.b2_stmt_io.specs.Keys.{assigns_key, key_leads, lines_of, waits}
use Rattle.b2_receiver.specs.Receiving.{assign_bytes_at}
use Rattle.b2_expr.specs.Workspace.{WorkState}

abbrev lines_items : List Item
lines_items = Sign byte.comma S13_SEPARATOR ∷ Typed leaf.LineNumber S15_LINE_NUMBER ∷ Sign byte.comma S13_SEPARATOR ∷ Typed leaf.LineNumber S15_LINE_NUMBER ∷ []

lines_row : row_items row.COMMA_TWO_LINES ≡ lines_items
unfolding row_items
lines_row = refl

abbrev Named : Text → Type 0
Named t = maybe_phrase (start.Code byte.comma) row.COMMA_TWO_LINES t ≡ true

begins : (t : Text) (b : Bool) → (first t == byte.comma) ≡ b → starts Atoms (start.Code byte.comma) t ≡ b
unfolding starts
begins t b is = is

here : (t : Text) → Named t → (first t == byte.comma) ≡ true → is_phrase row.COMMA_TWO_LINES t ≡ true
here t ok is = begun_part (start.Code byte.comma) row.COMMA_TWO_LINES t ok (begins t true is)

pub first_here : (t : Text) → Named t → (first t == byte.comma) ≡ true → is_leaf leaf.LineNumber (drop 1 t) ≡ true
first_here t ok is = (stands_of row.COMMA_TWO_LINES lines_items t lines_row (here t ok is)).0.1.0

pub second_here : (t : Text) → Named t → (first t == byte.comma) ≡ true → is_leaf leaf.LineNumber (drop 1 (drop 3 (drop 1 t))) ≡ true
second_here t ok is = (stands_of row.COMMA_TWO_LINES lines_items t lines_row (here t ok is)).0.1.1.1.0

abbrev pub line_at : Text → ℕ
line_at t = line_of (get_or t 1 0) (get_or t 2 0)

named : (special : Bool) (lines : Lines) (p : Place) (t : Text) → Named t → (first t == byte.comma) ≡ true
    → key_leads special lines p (maybe_tree (start.Code byte.comma) row.COMMA_TWO_LINES t) ≡ to_line lines p (if special then line_at (drop 1 (drop 3 (drop 1 t))) else line_at (drop 1 t))
named special lines p t ok is =
    ap (key_leads special lines p) (begun_tree (start.Code byte.comma) row.COMMA_TWO_LINES t (begins t true is))
    ∙ ap (λ (a : Trees). key_leads special lines p (In 1 a Done)) (stands_of row.COMMA_TWO_LINES lines_items t lines_row (here t ok is)).1

pub to_first : (special : Bool) (lines : Lines) (p : Place) (t : Text) → Named t → (first t == byte.comma) ≡ true → special ≡ false
    → key_leads special lines p (maybe_tree (start.Code byte.comma) row.COMMA_TWO_LINES t) ≡ to_line lines p (line_at (drop 1 t))
to_first special lines p t ok is which =
    named special lines p t ok is ∙ ap (λ (b : Bool). to_line lines p (if b then line_at (drop 1 (drop 3 (drop 1 t))) else line_at (drop 1 t))) which

pub to_second : (special : Bool) (lines : Lines) (p : Place) (t : Text) → Named t → (first t == byte.comma) ≡ true → special ≡ true
    → key_leads special lines p (maybe_tree (start.Code byte.comma) row.COMMA_TWO_LINES t) ≡ to_line lines p (line_at (drop 1 (drop 3 (drop 1 t))))
to_second special lines p t ok is which =
    named special lines p t ok is ∙ ap (λ (b : Bool). to_line lines p (if b then line_at (drop 1 (drop 3 (drop 1 t))) else line_at (drop 1 t))) which

pub to_next : (special : Bool) (lines : Lines) (p : Place) (t : Text) → (first t == byte.comma) ≡ false → key_leads special lines p (maybe_tree (start.Code byte.comma) row.COMMA_TWO_LINES t) ≡ outcome.Next
to_next special lines p t is = ap (key_leads special lines p) (left_out_tree (start.Code byte.comma) row.COMMA_TWO_LINES t (begins t false is))

-- KEYIN
abbrev key_items : List Item
key_items = Word word.KEYIN ∷ Part row.ALPHA_RECEIVER ∷ Maybe (start.Code byte.comma) row.COMMA_TWO_LINES ∷ []

key_row : row_items row.KEYIN ≡ key_items
unfolding row_items
key_row = refl

abbrev after_receiver : Text → Text
after_receiver t = after_phrase row.ALPHA_RECEIVER (drop 1 t)

pub key_receiver : (t : Text) → is_phrase row.KEYIN t ≡ true → is_phrase row.ALPHA_RECEIVER (drop 1 t) ≡ true
key_receiver t ok = (stands_of row.KEYIN key_items t key_row ok).0.1.0

pub key_lines : (t : Text) → is_phrase row.KEYIN t ≡ true → maybe_phrase (start.Code byte.comma) row.COMMA_TWO_LINES (after_receiver t) ≡ true
key_lines t ok = maybe_stands _ _ _ (stands_of row.KEYIN key_items t key_row ok).0.1.1

key_tree : (t : Text) → is_phrase row.KEYIN t ≡ true
    → tree_at row.KEYIN t ≡ Put (Coded word.KEYIN) (In 2 (tree_at row.ALPHA_RECEIVER (drop 1 t)) (maybe_tree (start.Code byte.comma) row.COMMA_TWO_LINES (after_receiver t)))
unfolding maybe_tree
key_tree t ok = (stands_of row.KEYIN key_items t key_row ok).1

pub assigns_key_is : (key : ℕ) (t : Text) (w : WorkState) → is_phrase row.KEYIN t ≡ true → assigns_key key (tree_at row.KEYIN t) w ≡ assign_bytes_at (Ok (key ∷ [])) (tree_at row.ALPHA_RECEIVER (drop 1 t)) w
assigns_key_is key t w ok = ap (λ (a : Trees). assigns_key key a w) (key_tree t ok)

pub lines_are : (t : Text) → is_phrase row.KEYIN t ≡ true → lines_of (tree_at row.KEYIN t) ≡ maybe_tree (start.Code byte.comma) row.COMMA_TWO_LINES (after_receiver t)
lines_are t ok = ap lines_of (key_tree t ok)

waits_by : (t : Text) (b : Bool) → (first t == byte.comma) ≡ b → waits (maybe_tree (start.Code byte.comma) row.COMMA_TWO_LINES t) ≡ (if b then outcome.Next else outcome.Repeat)
waits_by t true is = ap waits (begun_tree (start.Code byte.comma) row.COMMA_TWO_LINES t (begins t true is))
waits_by t false is = ap waits (left_out_tree (start.Code byte.comma) row.COMMA_TWO_LINES t (begins t false is))

pub waits_is : (t : Text) → waits (maybe_tree (start.Code byte.comma) row.COMMA_TWO_LINES t) ≡ (if first t == byte.comma then outcome.Next else outcome.Repeat)
waits_is t = waits_by t (first t == byte.comma) refl
