-- DSKIP and DBACKSPACE by their rows: the slot, and the end of the file or a number.
use Rattle.std.proofs.Common.{◌≡◌, ℕ, ◌==◌, Bool, true, false, if◌then◌else◌, List, [], ◌∷◌, drop, Option, Ok, refl, ap, ◌∙◌}
use Rattle.b2_base.specs.Byte as byte
use Rattle.b2_base.specs.Lexical.{first}
use Rattle.b2_base.specs.declared.files.By.TheVariants as by
use Rattle.b2_base.specs.declared.files.Slot.{Slot}
use Rattle.b2_atom.specs.Words.{Text}
use Rattle.b2_atom.specs.Tokens.Token.{Coded}
use Rattle.b2_atom.specs.Tree.{Trees}
use Rattle.b2_atom.specs.Tree.Trees.{Done, Put, In}
use Rattle.b2_atom.specs.Grammar.{row_items, starts}
use Rattle.b2_atom.specs.declared.words.Origin.TheVariants.{Atoms}
use Rattle.b2_atom.specs.declared.words.TheConstants as word
use Rattle.b2_atom.specs.declared.rows.TheConstants as row
use Rattle.b2_atom.specs.declared.forms.Start.{Start}
use Rattle.b2_atom.specs.declared.forms.Start.TheVariants as start
use Rattle.b2_atom.specs.declared.forms.Item.{Item}
use Rattle.b2_atom.specs.declared.forms.Item.TheVariants.{Word, Maybe, Either}
use Rattle.b2_rows.specs.Optional.{after_maybe, maybe_phrase}
use Rattle.b2_rows.specs.Rows.{is_phrase, tree_at, When}
use Rattle.b2_rows.proofs.RowsRead.{stands_of}
use Rattle.b2_expr.specs.Answers.{◌>>=◌}
use Rattle.b2_expr.specs.Scope.{Context}
use Rattle.b2_access.specs.declared.accesses.Access.TheVariants as access
use Rattle.b2_drive.specs.Drives.{DrivesSeen}
use Rattle.b2_stmt_file.specs.Counts.{count_given}
use Rattle.b2_stmt_file.specs.Skipping.{asks_to_skip, back, forward, slot_skipped}
use Rattle.b2_stmt_file.specs.Slots.{file_used, number_sign, slot_in, slot_tree}
use Rattle.b2_stmt_file.proofs.SlotRows.{slot_stands, stands_after, with_slot}

pub other : (b : Bool) (x y : Type 0) → b ≡ false → When b x y → y
other true x y is h = cc
other false x y is h = h

-- what stands after the word and the slot
abbrev pub operand_text : Text → Text
operand_text t = after_maybe number_sign row.SLOT (drop 1 t)

abbrev branches : ℕ → Text → Bool → Trees
branches n u b = if b then In 1 (tree_at n u) Done else In 0 (tree_at row.SUM u) Done

-- DSKIP
abbrev skip_items : List Item
skip_items = Word word.DSKIP ∷ Maybe number_sign row.SLOT ∷ Either (start.Code word.END) row.END row.SUM ∷ []

skip_row : row_items row.DSKIP ≡ skip_items
unfolding row_items
skip_row = refl

end_starts : (t : Text) (b : Bool) → (first t == word.END) ≡ b → starts Atoms (start.Code word.END) t ≡ b
unfolding starts
end_starts t b is = is

abbrev pub skip_operand : Text → Trees
skip_operand t = branches row.END (operand_text t) (starts Atoms (start.Code word.END) (operand_text t))

pub skip_slot : (t : Text) → is_phrase row.DSKIP t ≡ true → maybe_phrase number_sign row.SLOT (drop 1 t) ≡ true
skip_slot t ok = slot_stands (Either (start.Code word.END) row.END row.SUM ∷ []) (drop 1 t) (stands_of row.DSKIP skip_items t skip_row ok).0.1

pub skip_count : (t : Text) → is_phrase row.DSKIP t ≡ true → (first (operand_text t) == word.END) ≡ false → is_phrase row.SUM (operand_text t) ≡ true
skip_count t ok is =
    (other (starts Atoms (start.Code word.END) (operand_text t)) _ _ (end_starts (operand_text t) false is)
    (stands_after (Either (start.Code word.END) row.END row.SUM ∷ []) (drop 1 t) (stands_of row.DSKIP skip_items t skip_row ok).0.1)).0

pub skip_is : (d : DrivesSeen) (slots : List (Option Slot)) (e : Context) (t : Text) → is_phrase row.DSKIP t ≡ true
    → asks_to_skip forward d slots e (tree_at row.DSKIP t)
    ≡ (file_used d slots (slot_in (slot_tree (drop 1 t))) >>= (λ file. forward e (skip_operand t) >>= (λ w. Ok (access.Skip file w))))
skip_is d slots e t ok =
    ap (asks_to_skip forward d slots e) (stands_of row.DSKIP skip_items t skip_row ok).1
    ∙ with_slot (λ (r : Trees). asks_to_skip forward d slots e (Put (Coded word.DSKIP) r)) (λ (s r : Trees). file_used d slots (slot_in s) >>= (λ file. forward e r >>= (λ w. Ok (access.Skip file w)))) (λ n s r. refl)
    (Either (start.Code word.END) row.END row.SUM ∷ []) (drop 1 t)

pub skip_end : (e : Context) (t : Text) → (first (operand_text t) == word.END) ≡ true → forward e (skip_operand t) ≡ Ok by.End
skip_end e t is = ap (λ (b : Bool). forward e (branches row.END (operand_text t) b)) (end_starts (operand_text t) true is)

pub skip_over : (e : Context) (t : Text) → (first (operand_text t) == word.END) ≡ false
    → forward e (skip_operand t) ≡ (count_given 1 e (tree_at row.SUM (operand_text t)) >>= (λ n. Ok (by.Forward n)))
skip_over e t is = ap (λ (b : Bool). forward e (branches row.END (operand_text t) b)) (end_starts (operand_text t) false is)

pub skip_skipped : (t : Text) → is_phrase row.DSKIP t ≡ true → slot_skipped (tree_at row.DSKIP t) ≡ slot_in (slot_tree (drop 1 t))
skip_skipped t ok =
    ap slot_skipped (stands_of row.DSKIP skip_items t skip_row ok).1
    ∙ with_slot (λ (r : Trees). slot_skipped (Put (Coded word.DSKIP) r)) (λ (s r : Trees). slot_in s) (λ n s r. refl) (Either (start.Code word.END) row.END row.SUM ∷ []) (drop 1 t)

-- DBACKSPACE
abbrev letters : Start
letters = start.Letters byte.upper_b byte.upper_e byte.upper_g

abbrev back_items : List Item
back_items = Word word.DBACKSPACE ∷ Maybe number_sign row.SLOT ∷ Either letters row.BEG row.SUM ∷ []

back_row : row_items row.DBACKSPACE ≡ back_items
unfolding row_items
back_row = refl

abbrev pub back_operand : Text → Trees
back_operand t = branches row.BEG (operand_text t) (starts Atoms letters (operand_text t))

pub back_slot : (t : Text) → is_phrase row.DBACKSPACE t ≡ true → maybe_phrase number_sign row.SLOT (drop 1 t) ≡ true
back_slot t ok = slot_stands (Either letters row.BEG row.SUM ∷ []) (drop 1 t) (stands_of row.DBACKSPACE back_items t back_row ok).0.1

pub back_count : (t : Text) → is_phrase row.DBACKSPACE t ≡ true → starts Atoms letters (operand_text t) ≡ false → is_phrase row.SUM (operand_text t) ≡ true
back_count t ok is =
    (other (starts Atoms letters (operand_text t)) _ _ is (stands_after (Either letters row.BEG row.SUM ∷ []) (drop 1 t) (stands_of row.DBACKSPACE back_items t back_row ok).0.1)).0

pub back_is : (d : DrivesSeen) (slots : List (Option Slot)) (e : Context) (t : Text) → is_phrase row.DBACKSPACE t ≡ true
    → asks_to_skip back d slots e (tree_at row.DBACKSPACE t)
    ≡ (file_used d slots (slot_in (slot_tree (drop 1 t))) >>= (λ file. back e (back_operand t) >>= (λ w. Ok (access.Skip file w))))
back_is d slots e t ok =
    ap (asks_to_skip back d slots e) (stands_of row.DBACKSPACE back_items t back_row ok).1
    ∙ with_slot (λ (r : Trees). asks_to_skip back d slots e (Put (Coded word.DBACKSPACE) r)) (λ (s r : Trees). file_used d slots (slot_in s) >>= (λ file. back e r >>= (λ w. Ok (access.Skip file w)))) (λ n s r. refl)
    (Either letters row.BEG row.SUM ∷ []) (drop 1 t)

pub back_begin : (e : Context) (t : Text) → starts Atoms letters (operand_text t) ≡ true → back e (back_operand t) ≡ Ok by.Begin
back_begin e t is = ap (λ (b : Bool). back e (branches row.BEG (operand_text t) b)) is

pub back_over : (e : Context) (t : Text) → starts Atoms letters (operand_text t) ≡ false
    → back e (back_operand t) ≡ (count_given 1 e (tree_at row.SUM (operand_text t)) >>= (λ n. Ok (by.Back n)))
back_over e t is = ap (λ (b : Bool). back e (branches row.BEG (operand_text t) b)) is

pub back_skipped : (t : Text) → is_phrase row.DBACKSPACE t ≡ true → slot_skipped (tree_at row.DBACKSPACE t) ≡ slot_in (slot_tree (drop 1 t))
back_skipped t ok =
    ap slot_skipped (stands_of row.DBACKSPACE back_items t back_row ok).1
    ∙ with_slot (λ (r : Trees). slot_skipped (Put (Coded word.DBACKSPACE) r)) (λ (s r : Trees). slot_in s) (λ n s r. refl) (Either letters row.BEG row.SUM ∷ []) (drop 1 t)
