-- SCRATCH and SCRATCH DISK by their rows: the drive, and the name or the two numbers after it.
use Rattle.std.proofs.Common.{◌≡◌, true, List, [], ◌∷◌, drop, Ok, refl, ap}
use Rattle.b2_base.specs.Byte as byte
use Rattle.b2_base.specs.declared.codes.TheConstants.{S12_EQUALS, S13_SEPARATOR}
use Rattle.b2_atom.specs.Words.{Text}
use Rattle.b2_atom.specs.Grammar.{row_items}
use Rattle.b2_atom.specs.declared.words.TheConstants as word
use Rattle.b2_atom.specs.declared.rows.TheConstants as row
use Rattle.b2_atom.specs.declared.forms.Item.{Item}
use Rattle.b2_atom.specs.declared.forms.Item.TheVariants.{Word, Sign, Part}
use Rattle.b2_rows.specs.Rows.{is_phrase, tree_at, after_phrase}
use Rattle.b2_rows.proofs.RowsRead.{stands_of}
use Rattle.b2_expr.specs.Answers.{◌>>=◌}
use Rattle.b2_expr.specs.Scope.{Context}
use Rattle.b2_access.specs.declared.accesses.Access.TheVariants as access
use Rattle.b2_drive.specs.Drives.{DrivesSeen, drive_used}
use Rattle.b2_drive.specs.FileNames.{name_given}
use Rattle.b2_stmt_disk.specs.Scratching.{asks_to_format, asks_to_scratch, sectors_given}

-- SCRATCH
abbrev scratch_items : List Item
scratch_items = Word word.SCRATCH ∷ Part row.DRIVE_COMMA ∷ Part row.ALPHA ∷ []

scratch_row : row_items row.SCRATCH ≡ scratch_items
unfolding row_items
scratch_row = refl

pub scratch_drive : (t : Text) → is_phrase row.SCRATCH t ≡ true → is_phrase row.DRIVE_COMMA (drop 1 t) ≡ true
scratch_drive t ok = (stands_of row.SCRATCH scratch_items t scratch_row ok).0.1.0

pub scratch_name : (t : Text) → is_phrase row.SCRATCH t ≡ true → is_phrase row.ALPHA (after_phrase row.DRIVE_COMMA (drop 1 t)) ≡ true
scratch_name t ok = (stands_of row.SCRATCH scratch_items t scratch_row ok).0.1.1.0

pub scratch_is : (d : DrivesSeen) (e : Context) (t : Text) → is_phrase row.SCRATCH t ≡ true
    → asks_to_scratch d e (tree_at row.SCRATCH t)
    ≡ (drive_used d (tree_at row.DRIVE_COMMA (drop 1 t)) >>= (λ addr. name_given e (tree_at row.ALPHA (after_phrase row.DRIVE_COMMA (drop 1 t))) >>= (λ name. Ok (access.Scratch addr name))))
scratch_is d e t ok = ap (asks_to_scratch d e) (stands_of row.SCRATCH scratch_items t scratch_row ok).1

-- SCRATCH DISK
abbrev format_items : List Item
format_items =
    Word word.SCRATCH ∷ Word word.DISK ∷ Part row.DRIVE_COMMA ∷ Word word.LS ∷ Sign byte.equals S12_EQUALS ∷ Part row.SUM
    ∷ Sign byte.comma S13_SEPARATOR ∷ Word word.END ∷ Sign byte.equals S12_EQUALS ∷ Part row.SUM ∷ []

format_row : row_items row.SCRATCH_DISK ≡ format_items
unfolding row_items
format_row = refl

abbrev pub index_text : Text → Text
index_text t = drop 1 (drop 1 (after_phrase row.DRIVE_COMMA (drop 1 (drop 1 t))))

abbrev pub last_text : Text → Text
last_text t = drop 1 (drop 1 (drop 1 (after_phrase row.SUM (index_text t))))

pub format_drive : (t : Text) → is_phrase row.SCRATCH_DISK t ≡ true → is_phrase row.DRIVE_COMMA (drop 1 (drop 1 t)) ≡ true
format_drive t ok = (stands_of row.SCRATCH_DISK format_items t format_row ok).0.1.1.0

pub format_index : (t : Text) → is_phrase row.SCRATCH_DISK t ≡ true → is_phrase row.SUM (index_text t) ≡ true
format_index t ok = (stands_of row.SCRATCH_DISK format_items t format_row ok).0.1.1.1.1.1.0

pub format_last : (t : Text) → is_phrase row.SCRATCH_DISK t ≡ true → is_phrase row.SUM (last_text t) ≡ true
format_last t ok = (stands_of row.SCRATCH_DISK format_items t format_row ok).0.1.1.1.1.1.1.1.1.1.0

pub format_is : (d : DrivesSeen) (e : Context) (t : Text) → is_phrase row.SCRATCH_DISK t ≡ true
    → asks_to_format d e (tree_at row.SCRATCH_DISK t)
    ≡ (drive_used d (tree_at row.DRIVE_COMMA (drop 1 (drop 1 t))) >>= (λ addr. sectors_given e (tree_at row.SUM (index_text t)) >>= (λ i. sectors_given e (tree_at row.SUM (last_text t)) >>= (λ l. Ok (access.Format addr i l)))))
format_is d e t ok = ap (asks_to_format d e) (stands_of row.SCRATCH_DISK format_items t format_row ok).1
