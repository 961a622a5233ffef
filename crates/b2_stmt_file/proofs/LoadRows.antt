-- DATALOAD DC by its rows: a file that is opened, or the slot and what is loaded.
use Rattle.std.proofs.Common.{◌≡◌, ◌==◌, Bool, true, false, if◌then◌else◌, List, [], ◌∷◌, Option, Ok, refl, ap, ◌∙◌}
use Rattle.b2_base.specs.Lexical.{first}
use Rattle.b2_base.specs.declared.files.Slot.{Slot}
use Rattle.b2_atom.specs.Words.{Text}
use Rattle.b2_atom.specs.Tokens.Token.{Coded}
use Rattle.b2_atom.specs.Tree.{Trees}
use Rattle.b2_atom.specs.Tree.Trees.{Done, Put, In}
use Rattle.b2_atom.specs.Grammar.{row_items, starts}
use Rattle.b2_atom.specs.declared.words.Origin.TheVariants.{Atoms}
use Rattle.b2_atom.specs.declared.words.TheConstants as word
use Rattle.b2_atom.specs.declared.rows.TheConstants as row
use Rattle.b2_atom.specs.declared.forms.Start.TheVariants as start
use Rattle.b2_atom.specs.declared.forms.Item.{Item}
use Rattle.b2_atom.specs.declared.forms.Item.TheVariants.{Word, Part, Maybe, Either, Many}
use Rattle.b2_rows.specs.CommaLists.{all_listed, commas}
use Rattle.b2_rows.specs.Optional.{after_maybe, maybe_phrase}
use Rattle.b2_rows.specs.Rows.{is_phrase, tree_at, after_phrase, is_list}
use Rattle.b2_expr.specs.Answers.{◌>>=◌}
use Rattle.b2_rows.proofs.RowsRead.{stands_of}
use Rattle.b2_dec.specs.declared.values.Value.{Value}
use Rattle.b2_expr.specs.Scope.{Context}
use Rattle.b2_expr.specs.Workspace.{work_in}
use Rattle.b2_access.specs.Lending.{SeenLent}
use Rattle.b2_access.specs.Partition.{setting_of}
use Rattle.b2_access.specs.Views.{loading_came, opening_came}
use Rattle.b2_access.specs.Working.{lent_after}
use Rattle.b2_access.specs.declared.accesses.Access.{Access}
use Rattle.b2_access.specs.declared.accesses.Access.TheVariants as access
use Rattle.b2_access.specs.declared.private.Private.{Private}
use Rattle.b2_access.specs.declared.accesses.Answer.{Answer}
use Rattle.b2_drive.specs.Drives.{DrivesSeen}
use Rattle.b2_stmt_file.specs.FileAnswers.{by_loading, by_opening, file_ends, values_in}
use Rattle.b2_stmt_file.specs.LoadedValues.{all_kinds, items_at}
use Rattle.b2_stmt_file.specs.Loading.{asks_to_load, items_loaded, load_ends, loading_ends, loads_in, operands_text, slot_loaded, takes_by}
use Rattle.b2_stmt_file.specs.Opening.{asks_for_old, slot_opened}
use Rattle.b2_stmt_file.specs.declared.file_answers.Came.{Came}
use Rattle.b2_stmt_file.specs.declared.file_answers.Came.TheVariants as came
use Rattle.b2_stmt_file.specs.Slots.{file_used, number_sign, slot_in, slot_tree}
use Rattle.b2_stmt_file.proofs.OpenRows.{taken}
use Rattle.b2_stmt_file.proofs.SaveRows.{open_starts}
use Rattle.b2_stmt_file.proofs.SkipRows.{other}
use Rattle.b2_stmt_file.proofs.SlotRows.{slot_stands, stands_after, with_slot}

abbrev load_items : List Item
load_items = Word word.DATALOAD ∷ Word word.DC ∷ Either (start.Code word.OPEN) row.OLD_FILE row.LOADED_VALUES ∷ []

load_row : row_items row.DATALOAD ≡ load_items
unfolding row_items
load_row = refl

pub old_here : (t : Text) → is_phrase row.DATALOAD t ≡ true → (first (operands_text t) == word.OPEN) ≡ true → is_phrase row.OLD_FILE (operands_text t) ≡ true
old_here t ok is =
    (taken (starts Atoms (start.Code word.OPEN) (operands_text t)) _ _ (open_starts (operands_text t) true is) (stands_of row.DATALOAD load_items t load_row ok).0.1.1).0

pub loaded_here : (t : Text) → is_phrase row.DATALOAD t ≡ true → (first (operands_text t) == word.OPEN) ≡ false → is_phrase row.LOADED_VALUES (operands_text t) ≡ true
loaded_here t ok is =
    (other (starts Atoms (start.Code word.OPEN) (operands_text t)) _ _ (open_starts (operands_text t) false is) (stands_of row.DATALOAD load_items t load_row ok).0.1.1).0

abbrev tree_by : Text → Bool → Trees
tree_by u b = Put (Coded word.DATALOAD) (Put (Coded word.DC) (if b then In 1 (tree_at row.OLD_FILE u) Done else In 0 (tree_at row.LOADED_VALUES u) Done))

load_tree : (t : Text) (b : Bool) → is_phrase row.DATALOAD t ≡ true → (first (operands_text t) == word.OPEN) ≡ b → tree_at row.DATALOAD t ≡ tree_by (operands_text t) b
load_tree t b ok is = (stands_of row.DATALOAD load_items t load_row ok).1 ∙ ap (tree_by (operands_text t)) (open_starts (operands_text t) b is)

pub asks_of_old : (d : DrivesSeen) (slots : List (Option Slot)) (e : Context) (t : Text) → is_phrase row.DATALOAD t ≡ true → (first (operands_text t) == word.OPEN) ≡ true
    → asks_to_load d slots e (tree_at row.DATALOAD t) ≡ asks_for_old d e (tree_at row.OLD_FILE (operands_text t))
asks_of_old d slots e t ok is = ap (asks_to_load d slots e) (load_tree t true ok is)

pub asks_of_values : (d : DrivesSeen) (slots : List (Option Slot)) (e : Context) (t : Text) → is_phrase row.DATALOAD t ≡ true → (first (operands_text t) == word.OPEN) ≡ false
    → asks_to_load d slots e (tree_at row.DATALOAD t) ≡ loads_in d slots e (tree_at row.LOADED_VALUES (operands_text t))
asks_of_values d slots e t ok is = ap (asks_to_load d slots e) (load_tree t false ok is)

pub ends_of_old : (x : Access) (a : Answer) (t : Text) (me : Private) (s : SeenLent) → is_phrase row.DATALOAD t ≡ true → (first (operands_text t) == word.OPEN) ≡ true
    → loading_ends x a (tree_at row.DATALOAD t) me s ≡ file_ends (slot_opened (tree_at row.OLD_FILE (operands_text t))) (by_opening (opening_came x a)) me
ends_of_old x a t me s ok is = ap (λ (u : Trees). loading_ends x a u me s) (load_tree t true ok is)

pub ends_of_values : (x : Access) (a : Answer) (t : Text) (me : Private) (s : SeenLent) → is_phrase row.DATALOAD t ≡ true → (first (operands_text t) == word.OPEN) ≡ false
    → loading_ends x a (tree_at row.DATALOAD t) me s ≡ load_ends (by_loading (loading_came x a)) (values_in (loading_came x a)) (tree_at row.LOADED_VALUES (operands_text t)) me s
ends_of_values x a t me s ok is = ap (λ (u : Trees). loading_ends x a u me s) (load_tree t false ok is)

-- what it leaves of what is lent
pub loaded_lent : (c : Came) (values : List Value) (operands : Trees) (me : Private) (s : SeenLent)
    → lent_after (load_ends c values operands me s).work.work s ≡ record s { globals = (takes_by c values (items_loaded operands) (work_in (setting_of me) s.home me.vars s.globals)).work.globals }
loaded_lent (came.File file) values operands me s = refl
loaded_lent (came.Refused code) values operands me s = refl
loaded_lent came.Ended values operands me s = refl
loaded_lent came.Later values operands me s = refl

-- the slot and the receivers
abbrev after_items : List Item
after_items = Part row.LOADED ∷ Many commas row.COMMA_LOADED ∷ []

abbrev loaded_items : List Item
loaded_items = Maybe number_sign row.SLOT ∷ after_items

loaded_row : row_items row.LOADED_VALUES ≡ loaded_items
unfolding row_items
loaded_row = refl

abbrev pub items_text : Text → Text
items_text t = after_maybe number_sign row.SLOT t

pub loaded_slot : (t : Text) → is_phrase row.LOADED_VALUES t ≡ true → maybe_phrase number_sign row.SLOT t ≡ true
loaded_slot t ok = slot_stands after_items t (stands_of row.LOADED_VALUES loaded_items t loaded_row ok).0

pub first_item : (t : Text) → is_phrase row.LOADED_VALUES t ≡ true → is_phrase row.LOADED (items_text t) ≡ true
first_item t ok = (stands_after after_items t (stands_of row.LOADED_VALUES loaded_items t loaded_row ok).0).0

pub item_list : (t : Text) → is_phrase row.LOADED_VALUES t ≡ true → is_list commas row.COMMA_LOADED (after_phrase row.LOADED (items_text t)) ≡ true
item_list t ok = (stands_after after_items t (stands_of row.LOADED_VALUES loaded_items t loaded_row ok).0).1.0

pub loads_are : (d : DrivesSeen) (slots : List (Option Slot)) (e : Context) (t : Text) → is_phrase row.LOADED_VALUES t ≡ true
    → loads_in d slots e (tree_at row.LOADED_VALUES t) ≡ (file_used d slots (slot_in (slot_tree t)) >>= (λ file. all_kinds e.around (items_at (items_text t)) >>= (λ kinds. Ok (access.DataLoad file kinds))))
loads_are d slots e t ok =
    ap (loads_in d slots e) (stands_of row.LOADED_VALUES loaded_items t loaded_row ok).1
    ∙ with_slot (loads_in d slots e) (λ (s r : Trees). file_used d slots (slot_in s) >>= (λ file. all_kinds e.around (all_listed r) >>= (λ kinds. Ok (access.DataLoad file kinds)))) (λ n s r. refl) after_items t

pub slot_loaded_is : (t : Text) → is_phrase row.LOADED_VALUES t ≡ true → slot_loaded (tree_at row.LOADED_VALUES t) ≡ slot_in (slot_tree t)
slot_loaded_is t ok =
    ap slot_loaded (stands_of row.LOADED_VALUES loaded_items t loaded_row ok).1 ∙ with_slot slot_loaded (λ (s r : Trees). slot_in s) (λ n s r. refl) after_items t

pub items_are : (t : Text) → is_phrase row.LOADED_VALUES t ≡ true → items_loaded (tree_at row.LOADED_VALUES t) ≡ items_at (items_text t)
items_are t ok =
    ap items_loaded (stands_of row.LOADED_VALUES loaded_items t loaded_row ok).1 ∙ with_slot items_loaded (λ (s r : Trees). all_listed r) (λ n s r. refl) after_items t
