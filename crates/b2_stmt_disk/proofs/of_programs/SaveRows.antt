-- SAVE by its row: the drive, a scratched file's name in parentheses or none, the name, and one line, two lines or none.
use Rattle.std.proofs.Common.{◌≡◌, ℕ, Bool, true, false, ◌==◌, if◌then◌else◌, List, [], ◌∷◌, drop, get_or, Some, None, Result, Ok, refl, ap, ◌∙◌}
use Rattle.b2_base.specs.Byte as byte
use Rattle.b2_base.specs.Lexical.{first}
use Rattle.b2_base.specs.declared.codes.TheConstants.{S10_OPEN, S11_CLOSE, S13_SEPARATOR, S15_LINE_NUMBER}
use Rattle.b2_atom.specs.Words.{Text}
use Rattle.b2_atom.specs.Tree.{Trees}
use Rattle.b2_atom.specs.Tree.Trees.{Done, Put, In}
use Rattle.b2_atom.specs.Tokens.Token.{Coded, Lined}
use Rattle.b2_atom.specs.Grammar.{row_items, starts}
use Rattle.b2_atom.specs.declared.words.Origin.TheVariants.{Atoms}
use Rattle.b2_atom.specs.declared.words.TheConstants as word
use Rattle.b2_atom.specs.declared.rows.TheConstants as row
use Rattle.b2_atom.specs.declared.forms.Start.TheVariants as start
use Rattle.b2_atom.specs.declared.forms.Leaf.TheVariants as leaf
use Rattle.b2_atom.specs.declared.forms.Item.{Item}
use Rattle.b2_atom.specs.declared.forms.Item.TheVariants.{Word, Sign, Ignored, Typed, Part, Maybe, Nest}
use Rattle.b2_rows.specs.Leaves.{is_leaf}
use Rattle.b2_rows.specs.Rows.{is_phrase, tree_at, after_phrase, When}
use Rattle.b2_rows.specs.Optional.{maybe_phrase, maybe_tree, after_maybe}
use Rattle.b2_rows.specs.Values.{line_of}
use Rattle.b2_rows.specs.LineNumbers.{lines_from, second_line}
use Rattle.b2_rows.proofs.Optional.{maybe_stands, begun_part, begun_tree, begun_rest, left_out_tree, left_out_rest}
use Rattle.b2_rows.proofs.RowsRead.{stands_of}
use Rattle.b2_expr.specs.Answers.{◌>>=◌}
use Rattle.b2_expr.specs.Scope.{Context}
use Rattle.b2_access.specs.declared.accesses.Access.{Access}
use Rattle.b2_drive.specs.Drives.{DrivesSeen, drive_used}
use Rattle.b2_drive.specs.FileNames.{name_given}
use Rattle.b2_stmt_disk.specs.programs.Saving.{asks_to_save, lines_saved, old_named, saves, up_to_last}

begins : (c : ℕ) (t : Text) (b : Bool) → (first t == c) ≡ b → starts Atoms (start.Code c) t ≡ b
unfolding starts
begins c t b is = is

-- a scratched file's name
abbrev old_items : List Item
old_items = Part row.SCRATCHED_FILE ∷ Sign byte.comma S13_SEPARATOR ∷ []

old_row : row_items row.SCRATCHED_AND_COMMA ≡ old_items
unfolding row_items
old_row = refl

abbrev file_items : List Item
file_items = Sign byte.opening S10_OPEN ∷ Nest row.ALPHA ∷ Sign byte.closing S11_CLOSE ∷ []

file_row : row_items row.SCRATCHED_FILE ≡ file_items
unfolding row_items
file_row = refl

abbrev HasOld : Text → Type 0
HasOld t = maybe_phrase (start.Code byte.opening) row.SCRATCHED_AND_COMMA t ≡ true

old_part : (t : Text) → HasOld t → (first t == byte.opening) ≡ true → is_phrase row.SCRATCHED_AND_COMMA t ≡ true
old_part t ok is = begun_part (start.Code byte.opening) row.SCRATCHED_AND_COMMA t ok (begins byte.opening t true is)

file_part : (t : Text) → HasOld t → (first t == byte.opening) ≡ true → is_phrase row.SCRATCHED_FILE t ≡ true
file_part t ok is = (stands_of row.SCRATCHED_AND_COMMA old_items t old_row (old_part t ok is)).0.0

pub old_here : (t : Text) → HasOld t → (first t == byte.opening) ≡ true → is_phrase row.ALPHA (drop 1 t) ≡ true
old_here t ok is = (stands_of row.SCRATCHED_FILE file_items t file_row (file_part t ok is)).0.1.0

abbrev branch : Trees → Trees
branch a = In 1 a Done

abbrev with_comma : Trees → Trees
with_comma a = In 2 a (Put (Coded byte.comma) Done)

pub old_is : (e : Context) (t : Text) → HasOld t → (first t == byte.opening) ≡ true
    → old_named e (maybe_tree (start.Code byte.opening) row.SCRATCHED_AND_COMMA t) ≡ (name_given e (tree_at row.ALPHA (drop 1 t)) >>= (λ name. Ok (Some name)))
old_is e t ok is =
    ap (old_named e) (begun_tree (start.Code byte.opening) row.SCRATCHED_AND_COMMA t (begins byte.opening t true is))
    ∙ ap (λ (a : Trees). old_named e (branch a)) (stands_of row.SCRATCHED_AND_COMMA old_items t old_row (old_part t ok is)).1
    ∙ ap (λ (a : Trees). old_named e (branch (with_comma a))) (stands_of row.SCRATCHED_FILE file_items t file_row (file_part t ok is)).1

pub no_old : (e : Context) (t : Text) → (first t == byte.opening) ≡ false → old_named e (maybe_tree (start.Code byte.opening) row.SCRATCHED_AND_COMMA t) ≡ Ok None
no_old e t is = ap (old_named e) (left_out_tree (start.Code byte.opening) row.SCRATCHED_AND_COMMA t (begins byte.opening t false is))

pub after_old : (t : Text) → HasOld t → (first t == byte.opening) ≡ true → after_maybe (start.Code byte.opening) row.SCRATCHED_AND_COMMA t ≡ drop 1 (drop 1 (after_phrase row.ALPHA (drop 1 t)))
after_old t ok is =
    begun_rest (start.Code byte.opening) row.SCRATCHED_AND_COMMA t (begins byte.opening t true is)
    ∙ (stands_of row.SCRATCHED_AND_COMMA old_items t old_row (old_part t ok is)).2
    ∙ ap (drop 1) (stands_of row.SCRATCHED_FILE file_items t file_row (file_part t ok is)).2

pub after_none : (t : Text) → (first t == byte.opening) ≡ false → after_maybe (start.Code byte.opening) row.SCRATCHED_AND_COMMA t ≡ t
after_none t is = left_out_rest (start.Code byte.opening) row.SCRATCHED_AND_COMMA t (begins byte.opening t false is)

-- lines
abbrev lines_items : List Item
lines_items = Sign byte.comma S13_SEPARATOR ∷ Typed leaf.LineNumber S15_LINE_NUMBER ∷ Maybe (start.Code byte.comma) row.COMMA_LINE ∷ []

lines_row : row_items row.COMMA_LINES ≡ lines_items
unfolding row_items
lines_row = refl

abbrev second_items : List Item
second_items = Sign byte.comma S13_SEPARATOR ∷ Typed leaf.LineNumber S15_LINE_NUMBER ∷ []

second_row : row_items row.COMMA_LINE ≡ second_items
unfolding row_items
second_row = refl

abbrev HasLines : Text → Type 0
HasLines t = maybe_phrase (start.Code byte.comma) row.COMMA_LINES t ≡ true

lines_part : (t : Text) → HasLines t → (first t == byte.comma) ≡ true → is_phrase row.COMMA_LINES t ≡ true
lines_part t ok is = begun_part (start.Code byte.comma) row.COMMA_LINES t ok (begins byte.comma t true is)

pub first_here : (t : Text) → HasLines t → (first t == byte.comma) ≡ true → is_leaf leaf.LineNumber (drop 1 t) ≡ true
first_here t ok is = (stands_of row.COMMA_LINES lines_items t lines_row (lines_part t ok is)).0.1.0

abbrev pub second_text : Text → Text
second_text t = drop 3 (drop 1 t)

second_part : (t : Text) → HasLines t → (first t == byte.comma) ≡ true → (first (second_text t) == byte.comma) ≡ true → is_phrase row.COMMA_LINE (second_text t) ≡ true
second_part t ok is comma =
    begun_part (start.Code byte.comma) row.COMMA_LINE (second_text t) (maybe_stands _ _ _ (stands_of row.COMMA_LINES lines_items t lines_row (lines_part t ok is)).0.1.1) (begins byte.comma (second_text t) true comma)

pub second_here : (t : Text) → HasLines t → (first t == byte.comma) ≡ true → (first (second_text t) == byte.comma) ≡ true → is_leaf leaf.LineNumber (drop 1 (second_text t)) ≡ true
second_here t ok is comma = (stands_of row.COMMA_LINE second_items (second_text t) second_row (second_part t ok is comma)).0.1.0

abbrev line_at : Text → ℕ
line_at t = line_of (get_or t 1 0) (get_or t 2 0)

abbrev from_line : Text → Trees → Trees
from_line t a = Put (Lined (get_or t 1 0) (get_or t 2 0)) a

lines_tree : (t : Text) → HasLines t → (first t == byte.comma) ≡ true
    → maybe_tree (start.Code byte.comma) row.COMMA_LINES t ≡ branch (Put (Coded byte.comma) (from_line (drop 1 t) (maybe_tree (start.Code byte.comma) row.COMMA_LINE (second_text t))))
unfolding maybe_tree
lines_tree t ok is =
    begun_tree (start.Code byte.comma) row.COMMA_LINES t (begins byte.comma t true is)
    ∙ ap branch (stands_of row.COMMA_LINES lines_items t lines_row (lines_part t ok is)).1

pub two_lines : (t : Text) → HasLines t → (first t == byte.comma) ≡ true → (first (second_text t) == byte.comma) ≡ true
    → lines_saved (maybe_tree (start.Code byte.comma) row.COMMA_LINES t) ≡ (line_at (drop 1 t), line_at (drop 1 (second_text t)))
two_lines t ok is comma =
    ap lines_saved (lines_tree t ok is)
    ∙ ap (λ (a : Trees). up_to_last (lines_from (from_line (drop 1 t) a))) (begun_tree (start.Code byte.comma) row.COMMA_LINE (second_text t) (begins byte.comma (second_text t) true comma))
    ∙ ap (λ (a : Trees). (line_at (drop 1 t), second_line a)) (stands_of row.COMMA_LINE second_items (second_text t) second_row (second_part t ok is comma)).1

pub one_line : (t : Text) → HasLines t → (first t == byte.comma) ≡ true → (first (second_text t) == byte.comma) ≡ false
    → lines_saved (maybe_tree (start.Code byte.comma) row.COMMA_LINES t) ≡ (line_at (drop 1 t), 9999)
one_line t ok is comma =
    ap lines_saved (lines_tree t ok is)
    ∙ ap (λ (a : Trees). up_to_last (lines_from (from_line (drop 1 t) a))) (left_out_tree (start.Code byte.comma) row.COMMA_LINE (second_text t) (begins byte.comma (second_text t) false comma))

pub all_lines : (t : Text) → (first t == byte.comma) ≡ false → lines_saved (maybe_tree (start.Code byte.comma) row.COMMA_LINES t) ≡ (0, 9999)
all_lines t is = ap lines_saved (left_out_tree (start.Code byte.comma) row.COMMA_LINES t (begins byte.comma t false is))

-- SAVE
abbrev save_items : List Item
save_items =
    Word word.SAVE ∷ Ignored word.DC ∷ Part row.DRIVE_COMMA ∷ Maybe (start.Code byte.opening) row.SCRATCHED_AND_COMMA ∷ Part row.ALPHA
    ∷ Maybe (start.Code byte.comma) row.COMMA_LINES ∷ []

save_row : row_items row.SAVE ≡ save_items
unfolding row_items
save_row = refl

abbrev pub old_text : Text → Text
old_text t = after_phrase row.DRIVE_COMMA (drop 1 t)

abbrev pub name_text : Text → Text
name_text t = after_maybe (start.Code byte.opening) row.SCRATCHED_AND_COMMA (old_text t)

-- a part that may be left out, and what stands after it
maybe_here : (b x : Bool) (P Q : Type 0) → When b ((x ≡ true) × P) Q → (if b then x else true) ≡ true
maybe_here true x P Q h = h.0
maybe_here false x P Q h = refl

after_either : (b : Bool) (P : Type 0) (Q : Text → Type 0) (x y : Text) → When b (P × Q x) (Q y) → Q (if b then x else y)
after_either true P Q x y h = h.1
after_either false P Q x y h = h

-- the name, and lines or none
abbrev lines_text : Text → Text
lines_text u = after_phrase row.ALPHA u

abbrev Named : Text → Type 0
Named u = (is_phrase row.ALPHA u ≡ true) × When (starts Atoms (start.Code byte.comma) (lines_text u)) ((is_phrase row.COMMA_LINES (lines_text u) ≡ true) × Unit {0}) (Unit {0})

pub save_drive : (t : Text) → is_phrase row.SAVE t ≡ true → is_phrase row.DRIVE_COMMA (drop 1 t) ≡ true
save_drive t ok = (stands_of row.SAVE save_items t save_row ok).0.1.0

pub save_old : (t : Text) → is_phrase row.SAVE t ≡ true → HasOld (old_text t)
unfolding maybe_phrase
save_old t ok = maybe_here (starts Atoms (start.Code byte.opening) (old_text t)) _ _ _ (stands_of row.SAVE save_items t save_row ok).0.1.1

named : (t : Text) → is_phrase row.SAVE t ≡ true → Named (name_text t)
unfolding after_maybe
named t ok =
    after_either (starts Atoms (start.Code byte.opening) (old_text t)) (is_phrase row.SCRATCHED_AND_COMMA (old_text t) ≡ true) Named (after_phrase row.SCRATCHED_AND_COMMA (old_text t)) (old_text t)
    (stands_of row.SAVE save_items t save_row ok).0.1.1

pub save_name : (t : Text) → is_phrase row.SAVE t ≡ true → is_phrase row.ALPHA (name_text t) ≡ true
save_name t ok = (named t ok).0

pub save_lines : (t : Text) → is_phrase row.SAVE t ≡ true → HasLines (after_phrase row.ALPHA (name_text t))
save_lines t ok = maybe_stands _ _ _ (named t ok).1

-- what it asks for
abbrev name_tree : Text → Trees
name_tree u = In 2 (tree_at row.ALPHA u) (maybe_tree (start.Code byte.comma) row.COMMA_LINES (lines_text u))

abbrev asked : DrivesSeen → Context → Trees → Trees → Text → Result Access ℕ
asked d e drive old u =
    drive_used d drive >>= (λ addr. old_named e old >>= (λ o. name_given e (tree_at row.ALPHA u) >>= (λ name. Ok (saves addr o name (lines_saved (maybe_tree (start.Code byte.comma) row.COMMA_LINES (lines_text u)))))))

asked_by : (d : DrivesSeen) (e : Context) (drive a : Trees) (x y : Text) (b : Bool)
    → asks_to_save d e (Put (Coded word.SAVE) (In 2 drive (if b then In 1 a (name_tree x) else In 0 Done (name_tree y)))) ≡ asked d e drive (if b then In 1 a Done else In 0 Done Done) (if b then x else y)
asked_by d e drive a x y true = refl
asked_by d e drive a x y false = refl

pub save_is : (d : DrivesSeen) (e : Context) (t : Text) → is_phrase row.SAVE t ≡ true
    → asks_to_save d e (tree_at row.SAVE t) ≡ asked d e (tree_at row.DRIVE_COMMA (drop 1 t)) (maybe_tree (start.Code byte.opening) row.SCRATCHED_AND_COMMA (old_text t)) (name_text t)
unfolding maybe_tree after_maybe
save_is d e t ok =
    ap (asks_to_save d e) (stands_of row.SAVE save_items t save_row ok).1
    ∙ asked_by d e (tree_at row.DRIVE_COMMA (drop 1 t)) (tree_at row.SCRATCHED_AND_COMMA (old_text t)) (after_phrase row.SCRATCHED_AND_COMMA (old_text t)) (old_text t) (starts Atoms (start.Code byte.opening) (old_text t))
