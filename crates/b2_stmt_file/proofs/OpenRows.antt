-- DATASAVE DC OPEN and DATALOAD DC OPEN by their rows: the drive, the slot, what is made or used again, and the name.
use Rattle.std.proofs.Common.{◌≡◌, ℕ, Bool, true, false, if◌then◌else◌, List, [], ◌∷◌, drop, Some, Ok, refl, ap, ◌∙◌}
use Rattle.b2_base.specs.Byte as byte
use Rattle.b2_base.specs.declared.codes.TheConstants.{S10_OPEN, S11_CLOSE, S13_SEPARATOR}
use Rattle.b2_atom.specs.Words.{Text}
use Rattle.b2_atom.specs.Tokens.Token.{Coded}
use Rattle.b2_atom.specs.Tree.{Trees}
use Rattle.b2_atom.specs.Tree.Trees.{Done, Put, In}
use Rattle.b2_atom.specs.Grammar.{row_items, starts}
use Rattle.b2_atom.specs.declared.words.Origin.TheVariants.{Atoms}
use Rattle.b2_atom.specs.declared.words.TheConstants as word
use Rattle.b2_atom.specs.declared.rows.TheConstants as row
use Rattle.b2_atom.specs.declared.forms.Start.TheVariants as start
use Rattle.b2_atom.specs.declared.forms.Item.{Item}
use Rattle.b2_atom.specs.declared.forms.Item.TheVariants.{Word, Sign, Part, Maybe, Either, Nest}
use Rattle.b2_rows.specs.Optional.{after_maybe, maybe_phrase}
use Rattle.b2_rows.specs.Rows.{is_phrase, tree_at, after_phrase, Stands, When}
use Rattle.b2_rows.proofs.RowsRead.{stands_of}
use Rattle.b2_expr.specs.Answers.{◌>>=◌}
use Rattle.b2_expr.specs.Scope.{Context}
use Rattle.b2_access.specs.declared.accesses.Access.TheVariants as access
use Rattle.b2_drive.specs.Drives.{DrivesSeen, drive_used}
use Rattle.b2_drive.specs.FileNames.{name_given}
use Rattle.b2_stmt_file.specs.Opening.{asks_for_new, asks_for_old, makes, new_file, old_file, reuses, slot_opened}
use Rattle.b2_stmt_file.specs.Slots.{number_sign, slot_in, slot_tree}
use Rattle.b2_stmt_file.proofs.SkipRows.{other}
use Rattle.b2_stmt_file.proofs.SlotRows.{slot_stands, stands_after, with_slot}

pub taken : (b : Bool) (x y : Type 0) → b ≡ true → When b x y → x
taken true x y is h = h
taken false x y is h = cc

-- the name of a scratched file in parentheses
abbrev scratched_items : List Item
scratched_items = Sign byte.opening S10_OPEN ∷ Nest row.ALPHA ∷ Sign byte.closing S11_CLOSE ∷ []

scratched_row : row_items row.SCRATCHED_FILE ≡ scratched_items
unfolding row_items
scratched_row = refl

pub scratched_name : (t : Text) → is_phrase row.SCRATCHED_FILE t ≡ true → is_phrase row.ALPHA (drop 1 t) ≡ true
scratched_name t ok = (stands_of row.SCRATCHED_FILE scratched_items t scratched_row ok).0.1.0

pub scratched_rest : (t : Text) → is_phrase row.SCRATCHED_FILE t ≡ true → after_phrase row.SCRATCHED_FILE t ≡ drop 1 (after_phrase row.ALPHA (drop 1 t))
scratched_rest t ok = (stands_of row.SCRATCHED_FILE scratched_items t scratched_row ok).2

pub reuses_is : (e : Context) (addr : List ℕ) (t : Text) (name : Trees) → is_phrase row.SCRATCHED_FILE t ≡ true
    → reuses e addr (tree_at row.SCRATCHED_FILE t) name
    ≡ (name_given e (tree_at row.ALPHA (drop 1 t)) >>= (λ o. name_given e name >>= (λ x. Ok (access.DataNew addr (Some o) 0 x))))
reuses_is e addr t name ok = ap (λ (u : Trees). reuses e addr u name) (stands_of row.SCRATCHED_FILE scratched_items t scratched_row ok).1

-- a new file
abbrev file_items : List Item
file_items = Either start.AlphaInside row.SCRATCHED_FILE row.SUM ∷ Sign byte.comma S13_SEPARATOR ∷ Part row.ALPHA ∷ []

abbrev new_items : List Item
new_items = Word word.OPEN ∷ Part row.DRIVE_COMMA ∷ Maybe number_sign row.SLOT ∷ file_items

new_row : row_items row.NEW_FILE ≡ new_items
unfolding row_items
new_row = refl

abbrev pub drive_rest : Text → Text
drive_rest t = after_phrase row.DRIVE_COMMA (drop 1 t)

abbrev pub file_text : Text → Text
file_text t = after_maybe number_sign row.SLOT (drive_rest t)

pub new_drive : (t : Text) → is_phrase row.NEW_FILE t ≡ true → is_phrase row.DRIVE_COMMA (drop 1 t) ≡ true
new_drive t ok = (stands_of row.NEW_FILE new_items t new_row ok).0.1.0

pub new_slot : (t : Text) → is_phrase row.NEW_FILE t ≡ true → maybe_phrase number_sign row.SLOT (drive_rest t) ≡ true
new_slot t ok = slot_stands file_items (drive_rest t) (stands_of row.NEW_FILE new_items t new_row ok).0.1.1

file_stands : (t : Text) → is_phrase row.NEW_FILE t ≡ true → Stands file_items (file_text t)
file_stands t ok = stands_after file_items (drive_rest t) (stands_of row.NEW_FILE new_items t new_row ok).0.1.1

pub scratched_here : (t : Text) → is_phrase row.NEW_FILE t ≡ true → starts Atoms start.AlphaInside (file_text t) ≡ true → is_phrase row.SCRATCHED_FILE (file_text t) ≡ true
scratched_here t ok is = (taken (starts Atoms start.AlphaInside (file_text t)) _ _ is (file_stands t ok)).0

pub scratched_then : (t : Text) → is_phrase row.NEW_FILE t ≡ true → starts Atoms start.AlphaInside (file_text t) ≡ true
    → is_phrase row.ALPHA (drop 1 (after_phrase row.SCRATCHED_FILE (file_text t))) ≡ true
scratched_then t ok is = (taken (starts Atoms start.AlphaInside (file_text t)) _ _ is (file_stands t ok)).1.1.0

pub sectors_here : (t : Text) → is_phrase row.NEW_FILE t ≡ true → starts Atoms start.AlphaInside (file_text t) ≡ false → is_phrase row.SUM (file_text t) ≡ true
sectors_here t ok is = (other (starts Atoms start.AlphaInside (file_text t)) _ _ is (file_stands t ok)).0

pub sectors_then : (t : Text) → is_phrase row.NEW_FILE t ≡ true → starts Atoms start.AlphaInside (file_text t) ≡ false
    → is_phrase row.ALPHA (drop 1 (after_phrase row.SUM (file_text t))) ≡ true
sectors_then t ok is = (other (starts Atoms start.AlphaInside (file_text t)) _ _ is (file_stands t ok)).1.1.0

abbrev named : ℕ → Text → Trees
named n u = Put (Coded byte.comma) (In 2 (tree_at row.ALPHA (drop 1 (after_phrase n u))) Done)

abbrev file_by : Text → Bool → Trees
file_by u b = if b then In 1 (tree_at row.SCRATCHED_FILE u) (named row.SCRATCHED_FILE u) else In 0 (tree_at row.SUM u) (named row.SUM u)

abbrev pub file_tree : Text → Trees
file_tree t = file_by (file_text t) (starts Atoms start.AlphaInside (file_text t))

pub new_is : (d : DrivesSeen) (e : Context) (t : Text) → is_phrase row.NEW_FILE t ≡ true
    → asks_for_new d e (tree_at row.NEW_FILE t) ≡ (drive_used d (tree_at row.DRIVE_COMMA (drop 1 t)) >>= (λ addr. new_file e addr (file_tree t)))
new_is d e t ok =
    ap (asks_for_new d e) (stands_of row.NEW_FILE new_items t new_row ok).1
    ∙ with_slot (λ (r : Trees). asks_for_new d e (Put (Coded word.OPEN) (In 2 (tree_at row.DRIVE_COMMA (drop 1 t)) r)))
    (λ (s r : Trees). drive_used d (tree_at row.DRIVE_COMMA (drop 1 t)) >>= (λ addr. new_file e addr r)) (λ n s r. refl) file_items (drive_rest t)

pub new_reuses : (e : Context) (addr : List ℕ) (t : Text) → starts Atoms start.AlphaInside (file_text t) ≡ true
    → new_file e addr (file_tree t) ≡ reuses e addr (tree_at row.SCRATCHED_FILE (file_text t)) (tree_at row.ALPHA (drop 1 (after_phrase row.SCRATCHED_FILE (file_text t))))
new_reuses e addr t is = ap (λ (b : Bool). new_file e addr (file_by (file_text t) b)) is

pub new_makes : (e : Context) (addr : List ℕ) (t : Text) → starts Atoms start.AlphaInside (file_text t) ≡ false
    → new_file e addr (file_tree t) ≡ makes e addr (tree_at row.SUM (file_text t)) (tree_at row.ALPHA (drop 1 (after_phrase row.SUM (file_text t))))
new_makes e addr t is = ap (λ (b : Bool). new_file e addr (file_by (file_text t) b)) is

pub new_opened : (t : Text) → is_phrase row.NEW_FILE t ≡ true → slot_opened (tree_at row.NEW_FILE t) ≡ slot_in (slot_tree (drive_rest t))
new_opened t ok =
    ap slot_opened (stands_of row.NEW_FILE new_items t new_row ok).1
    ∙ with_slot (λ (r : Trees). slot_opened (Put (Coded word.OPEN) (In 2 (tree_at row.DRIVE_COMMA (drop 1 t)) r))) (λ (s r : Trees). slot_in s) (λ n s r. refl) file_items (drive_rest t)

-- a file that is there
abbrev old_items : List Item
old_items = Word word.OPEN ∷ Part row.DRIVE_COMMA ∷ Maybe number_sign row.SLOT ∷ Part row.ALPHA ∷ []

old_row : row_items row.OLD_FILE ≡ old_items
unfolding row_items
old_row = refl

pub old_drive : (t : Text) → is_phrase row.OLD_FILE t ≡ true → is_phrase row.DRIVE_COMMA (drop 1 t) ≡ true
old_drive t ok = (stands_of row.OLD_FILE old_items t old_row ok).0.1.0

pub old_slot : (t : Text) → is_phrase row.OLD_FILE t ≡ true → maybe_phrase number_sign row.SLOT (drive_rest t) ≡ true
old_slot t ok = slot_stands (Part row.ALPHA ∷ []) (drive_rest t) (stands_of row.OLD_FILE old_items t old_row ok).0.1.1

pub old_name : (t : Text) → is_phrase row.OLD_FILE t ≡ true → is_phrase row.ALPHA (file_text t) ≡ true
old_name t ok = (stands_after (Part row.ALPHA ∷ []) (drive_rest t) (stands_of row.OLD_FILE old_items t old_row ok).0.1.1).0

pub old_is : (d : DrivesSeen) (e : Context) (t : Text) → is_phrase row.OLD_FILE t ≡ true
    → asks_for_old d e (tree_at row.OLD_FILE t)
    ≡ (drive_used d (tree_at row.DRIVE_COMMA (drop 1 t)) >>= (λ addr. name_given e (tree_at row.ALPHA (file_text t)) >>= (λ x. Ok (access.DataOpen addr x))))
old_is d e t ok =
    ap (asks_for_old d e) (stands_of row.OLD_FILE old_items t old_row ok).1
    ∙ with_slot (λ (r : Trees). asks_for_old d e (Put (Coded word.OPEN) (In 2 (tree_at row.DRIVE_COMMA (drop 1 t)) r)))
    (λ (s r : Trees). drive_used d (tree_at row.DRIVE_COMMA (drop 1 t)) >>= (λ addr. old_file e addr r)) (λ n s r. refl) (Part row.ALPHA ∷ []) (drive_rest t)

pub old_opened : (t : Text) → is_phrase row.OLD_FILE t ≡ true → slot_opened (tree_at row.OLD_FILE t) ≡ slot_in (slot_tree (drive_rest t))
old_opened t ok =
    ap slot_opened (stands_of row.OLD_FILE old_items t old_row ok).1
    ∙ with_slot (λ (r : Trees). slot_opened (Put (Coded word.OPEN) (In 2 (tree_at row.DRIVE_COMMA (drop 1 t)) r))) (λ (s r : Trees). slot_in s) (λ n s r. refl) (Part row.ALPHA ∷ []) (drive_rest t)
