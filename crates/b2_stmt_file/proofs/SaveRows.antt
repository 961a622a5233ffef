-- DATASAVE DC by its rows: a file that is opened, or the slot and what is saved.
use Rattle.std.proofs.Common.{◌≡◌, ◌==◌, Bool, true, false, if◌then◌else◌, List, [], ◌∷◌, drop, Option, Ok, refl, ap, ◌∙◌}
use Rattle.b2_base.specs.Lexical.{first}
use Rattle.b2_base.specs.declared.files.Slot.{Slot}
use Rattle.b2_atom.specs.Words.{Text}
use Rattle.b2_atom.specs.Tokens.Token.{Coded}
use Rattle.b2_atom.specs.Tree.{Trees}
use Rattle.b2_atom.specs.Tree.Trees.{Done, Put, In}
use Rattle.b2_atom.specs.Grammar.{row_items, starts}
use Rattle.b2_atom.specs.declared.words.Origin.TheVariants.{Atoms}
use Rattle.b2_atom.specs.declared.words.TheConstants as word
use Rattle.b2_atom.specs.declared.rows.TheConstants as row
use Rattle.b2_atom.specs.declared.forms.Start.TheVariants as start
use Rattle.b2_atom.specs.declared.forms.Item.{Item}
use Rattle.b2_atom.specs.declared.forms.Item.TheVariants.{Word, Maybe, Either}
use Rattle.b2_rows.specs.Optional.{after_maybe, maybe_phrase}
use Rattle.b2_rows.specs.Rows.{is_phrase, tree_at}
use Rattle.b2_rows.proofs.RowsRead.{stands_of}
use Rattle.b2_expr.specs.Answers.{◌>>=◌}
use Rattle.b2_expr.specs.Scope.{Context}
use Rattle.b2_access.specs.Views.{opening_came, place_came}
use Rattle.b2_access.specs.declared.accesses.Access.{Access}
use Rattle.b2_access.specs.declared.accesses.Access.TheVariants as access
use Rattle.b2_access.specs.declared.accesses.Answer.{Answer}
use Rattle.b2_drive.specs.Drives.{DrivesSeen}
use Rattle.b2_stmt_file.specs.FileAnswers.{by_opening, by_place}
use Rattle.b2_stmt_file.specs.Opening.{asks_for_new, slot_opened}
use Rattle.b2_stmt_file.specs.Saving.{asks_to_save, came_of, saved, saves_in, slot_of, slot_saved, what_at}
use Rattle.b2_stmt_file.specs.Slots.{file_used, number_sign, slot_in, slot_tree}
use Rattle.b2_stmt_file.proofs.OpenRows.{taken}
use Rattle.b2_stmt_file.proofs.SkipRows.{other}
use Rattle.b2_stmt_file.proofs.SlotRows.{slot_stands, stands_after, with_slot}

abbrev save_items : List Item
save_items = Word word.DATASAVE ∷ Word word.DC ∷ Either (start.Code word.OPEN) row.NEW_FILE row.SAVED_VALUES ∷ []

save_row : row_items row.DATASAVE ≡ save_items
unfolding row_items
save_row = refl

pub open_starts : (t : Text) (b : Bool) → (first t == word.OPEN) ≡ b → starts Atoms (start.Code word.OPEN) t ≡ b
unfolding starts
open_starts t b is = is

abbrev pub operands_text : Text → Text
operands_text t = drop 1 (drop 1 t)

pub new_here : (t : Text) → is_phrase row.DATASAVE t ≡ true → (first (operands_text t) == word.OPEN) ≡ true → is_phrase row.NEW_FILE (operands_text t) ≡ true
new_here t ok is =
    (taken (starts Atoms (start.Code word.OPEN) (operands_text t)) _ _ (open_starts (operands_text t) true is) (stands_of row.DATASAVE save_items t save_row ok).0.1.1).0

pub saved_here : (t : Text) → is_phrase row.DATASAVE t ≡ true → (first (operands_text t) == word.OPEN) ≡ false → is_phrase row.SAVED_VALUES (operands_text t) ≡ true
saved_here t ok is =
    (other (starts Atoms (start.Code word.OPEN) (operands_text t)) _ _ (open_starts (operands_text t) false is) (stands_of row.DATASAVE save_items t save_row ok).0.1.1).0

abbrev tree_by : Text → Bool → Trees
tree_by u b = Put (Coded word.DATASAVE) (Put (Coded word.DC) (if b then In 1 (tree_at row.NEW_FILE u) Done else In 0 (tree_at row.SAVED_VALUES u) Done))

save_tree : (t : Text) (b : Bool) → is_phrase row.DATASAVE t ≡ true → (first (operands_text t) == word.OPEN) ≡ b → tree_at row.DATASAVE t ≡ tree_by (operands_text t) b
save_tree t b ok is = (stands_of row.DATASAVE save_items t save_row ok).1 ∙ ap (tree_by (operands_text t)) (open_starts (operands_text t) b is)

pub asks_of_new : (d : DrivesSeen) (slots : List (Option Slot)) (e : Context) (t : Text) → is_phrase row.DATASAVE t ≡ true → (first (operands_text t) == word.OPEN) ≡ true
    → asks_to_save d slots e (tree_at row.DATASAVE t) ≡ asks_for_new d e (tree_at row.NEW_FILE (operands_text t))
asks_of_new d slots e t ok is = ap (asks_to_save d slots e) (save_tree t true ok is)

pub asks_of_saved : (d : DrivesSeen) (slots : List (Option Slot)) (e : Context) (t : Text) → is_phrase row.DATASAVE t ≡ true → (first (operands_text t) == word.OPEN) ≡ false
    → asks_to_save d slots e (tree_at row.DATASAVE t) ≡ saves_in d slots e (tree_at row.SAVED_VALUES (operands_text t))
asks_of_saved d slots e t ok is = ap (asks_to_save d slots e) (save_tree t false ok is)

pub slot_new : (t : Text) → is_phrase row.DATASAVE t ≡ true → (first (operands_text t) == word.OPEN) ≡ true → slot_of (tree_at row.DATASAVE t) ≡ slot_opened (tree_at row.NEW_FILE (operands_text t))
slot_new t ok is = ap slot_of (save_tree t true ok is)

pub came_new : (x : Access) (a : Answer) (t : Text) → is_phrase row.DATASAVE t ≡ true → (first (operands_text t) == word.OPEN) ≡ true → came_of x a (tree_at row.DATASAVE t) ≡ by_opening (opening_came x a)
came_new x a t ok is = ap (came_of x a) (save_tree t true ok is)

pub came_saved : (x : Access) (a : Answer) (t : Text) → is_phrase row.DATASAVE t ≡ true → (first (operands_text t) == word.OPEN) ≡ false → came_of x a (tree_at row.DATASAVE t) ≡ by_place (place_came x a)
came_saved x a t ok is = ap (came_of x a) (save_tree t false ok is)

-- the slot and what is saved
abbrev saved_items : List Item
saved_items = Maybe number_sign row.SLOT ∷ Either (start.Code word.END) row.END row.SAVED_LIST ∷ []

saved_row : row_items row.SAVED_VALUES ≡ saved_items
unfolding row_items
saved_row = refl

end_starts : (t : Text) (b : Bool) → (first t == word.END) ≡ b → starts Atoms (start.Code word.END) t ≡ b
unfolding starts
end_starts t b is = is

abbrev pub what_text : Text → Text
what_text t = after_maybe number_sign row.SLOT t

pub saved_slot : (t : Text) → is_phrase row.SAVED_VALUES t ≡ true → maybe_phrase number_sign row.SLOT t ≡ true
saved_slot t ok = slot_stands (Either (start.Code word.END) row.END row.SAVED_LIST ∷ []) t (stands_of row.SAVED_VALUES saved_items t saved_row ok).0

pub list_here : (t : Text) → is_phrase row.SAVED_VALUES t ≡ true → (first (what_text t) == word.END) ≡ false → is_phrase row.SAVED_LIST (what_text t) ≡ true
list_here t ok is =
    (other (starts Atoms (start.Code word.END) (what_text t)) _ _ (end_starts (what_text t) false is)
    (stands_after (Either (start.Code word.END) row.END row.SAVED_LIST ∷ []) t (stands_of row.SAVED_VALUES saved_items t saved_row ok).0)).0

abbrev what_by : Text → Bool → Trees
what_by u b = if b then In 1 (tree_at row.END u) Done else In 0 (tree_at row.SAVED_LIST u) Done

pub saved_is : (d : DrivesSeen) (slots : List (Option Slot)) (e : Context) (t : Text) → is_phrase row.SAVED_VALUES t ≡ true
    → saves_in d slots e (tree_at row.SAVED_VALUES t) ≡ (file_used d slots (slot_in (slot_tree t)) >>= (λ file. saved e file (what_at (what_text t))))
saved_is d slots e t ok =
    ap (saves_in d slots e) (stands_of row.SAVED_VALUES saved_items t saved_row ok).1
    ∙ with_slot (saves_in d slots e) (λ (s r : Trees). file_used d slots (slot_in s) >>= (λ file. saved e file r)) (λ n s r. refl) (Either (start.Code word.END) row.END row.SAVED_LIST ∷ []) t

pub saved_end : (e : Context) (file : Slot) (t : Text) → (first t == word.END) ≡ true → saved e file (what_at t) ≡ Ok (access.DataEnd file)
saved_end e file t is = ap (λ (b : Bool). saved e file (what_by t b)) (end_starts t true is)

pub saved_list : (e : Context) (file : Slot) (t : Text) → (first t == word.END) ≡ false → saved e file (what_at t) ≡ saved e file (In 0 (tree_at row.SAVED_LIST t) Done)
saved_list e file t is = ap (λ (b : Bool). saved e file (what_by t b)) (end_starts t false is)

pub slot_saved_is : (t : Text) → is_phrase row.DATASAVE t ≡ true → (first (operands_text t) == word.OPEN) ≡ false
    → slot_of (tree_at row.DATASAVE t) ≡ slot_in (slot_tree (operands_text t))
slot_saved_is t ok is =
    ap slot_of (save_tree t false ok is)
    ∙ ap slot_saved (stands_of row.SAVED_VALUES saved_items (operands_text t) saved_row (saved_here t ok is)).1
    ∙ with_slot slot_saved (λ (s r : Trees). slot_in s) (λ n s r. refl) (Either (start.Code word.END) row.END row.SAVED_LIST ∷ []) (operands_text t)
