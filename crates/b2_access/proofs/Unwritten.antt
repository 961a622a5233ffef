-- Objects of one kind aren't those of another; and which kinds of objects each access writes, once for all that is said of it.
use Rattle.std.specs.Prelude.{◌≡◌, ℕ, Bool, true, false, List, [], ◌∷◌, ◌++◌, map, Option, Some, None, refl}
use Rattle.std.proofs.Common.{sym, ap, ◌∙◌, inl, inr}
use Rattle.std.proofs.lemmas.Bool.{false≢true}
use Rattle.b2_access.specs.declared.objects.Object.{Object}
use Rattle.b2_access.specs.declared.objects.Object.TheVariants as object
use Rattle.b2_access.specs.declared.accesses.Access.{Access}
use Rattle.b2_access.specs.declared.accesses.Access.TheVariants as access
use Rattle.b2_access.specs.AccessRows.{names_of, row}
use Rattle.b2_access.specs.Borrowers.{homes_marked}
use Rattle.b2_access.specs.Reach.{borrow_entered, borrows, if_any, objects_held, objects_named}
use Rattle.b2_access.specs.Store.{IsIn}
use Rattle.b2_access.specs.Task.{in_left}

-- objects of a kind aren't those of another
pub of_kinds : (is_kind : Object → Bool) (o x : Object) → is_kind o ≡ true → is_kind x ≡ false → o ≡ x → ⊥
of_kinds is_kind o x is other e = false≢true (sym other ∙ ap is_kind (sym e) ∙ is)

pub no_hold : (is_kind : Object → Bool) (o : Object) → is_kind o ≡ true → ((a : List ℕ) → is_kind (object.Hog a) ≡ false) → (addrs : List (List ℕ)) → IsIn o (objects_held addrs) → ⊥
no_hold is_kind o is others [] i = i
no_hold is_kind o is others (a ∷ addrs) i = elim i [ inl e ↦ of_kinds is_kind o (object.Hog a) is (others a) e | inr j ↦ no_hold is_kind o is others addrs j ]

-- a name is no device
pub no_names : (is_kind : Object → Bool) (o : Object) → is_kind o ≡ true → ((n : List ℕ) → is_kind (object.Name n) ≡ false) → (ns : List (List ℕ)) → IsIn o (map object.Name ns) → ⊥
no_names is_kind o is others [] i = i
no_names is_kind o is others (n ∷ ns) i = elim i [ inl e ↦ of_kinds is_kind o (object.Name n) is (others n) e | inr j ↦ no_names is_kind o is others ns j ]

-- nor are those who stand inside a text, beside other objects
pub no_borrows : (is_kind : Object → Bool) (o : Object) → is_kind o ≡ true → ((h : ℕ) → is_kind (object.Borrow h) ≡ false) → (homes : List ℕ) (rest : List Object) → (IsIn o rest → ⊥) → IsIn o (borrows homes ++ rest) → ⊥
no_borrows is_kind o is others [] rest out i = out i
no_borrows is_kind o is others (h ∷ homes) rest out i = elim i [ inl e ↦ of_kinds is_kind o (object.Borrow h) is (others h) e | inr j ↦ no_borrows is_kind o is others homes rest out j ]

pub no_borrow : (is_kind : Object → Bool) (o : Object) → is_kind o ≡ true → ((h : ℕ) → is_kind (object.Borrow h) ≡ false) → (homes : List ℕ) → IsIn o (borrows homes) → ⊥
no_borrow is_kind o is others homes i = no_borrows is_kind o is others homes [] (λ j. j) (in_left o (borrows homes) [] i)

pub no_borrow_entered : (is_kind : Object → Bool) (o : Object) → is_kind o ≡ true → ((h : ℕ) → is_kind (object.Borrow h) ≡ false) → (holder : Option ℕ) → IsIn o (borrow_entered holder) → ⊥
no_borrow_entered is_kind o is others None i = i
no_borrow_entered is_kind o is others (Some g) i = elim i [ inl e ↦ of_kinds is_kind o (object.Borrow g) is (others g) e | inr never ↦ never ]

-- one object of another kind
pub no_one : (is_kind : Object → Bool) (o x : Object) → is_kind o ≡ true → is_kind x ≡ false → IsIn o (x ∷ []) → ⊥
no_one is_kind o x is other i = elim i [ inl e ↦ of_kinds is_kind o x is other e | inr none ↦ none ]

-- ---- KINDS OF OBJECTS

abbrev pub is_text : Object → Bool
is_text (object.Text p) = true
is_text o = false

abbrev pub is_borrow : Object → Bool
is_borrow (object.Borrow p) = true
is_borrow o = false

abbrev pub is_name : Object → Bool
is_name (object.Name n) = true
is_name o = false

abbrev pub is_at_terminal : Object → Bool
is_at_terminal (object.Terminal t) = true
is_at_terminal o = false

abbrev pub is_printed : Object → Bool
is_printed (object.Printer a) = true
is_printed o = false

abbrev pub is_image : Object → Bool
is_image (object.Platter a) = true
is_image o = false

abbrev pub is_hold : Object → Bool
is_hold (object.Hog a) = true
is_hold o = false

-- a text that is edited, with who stands inside those that are given back; names besides, where a program is loaded; and `@` variables, where
-- all is cleared
abbrev pub is_edited : Object → Bool
is_edited (object.Text p) = true
is_edited (object.Borrow p) = true
is_edited o = false

abbrev pub is_loaded : Object → Bool
is_loaded (object.Text p) = true
is_loaded (object.Borrow p) = true
is_loaded (object.Name n) = true
is_loaded o = false

abbrev pub is_cleared : Object → Bool
is_cleared (object.Text p) = true
is_cleared (object.Borrow p) = true
is_cleared (object.Name n) = true
is_cleared (object.Globals p) = true
is_cleared o = false

abbrev pub is_none : Object → Bool
is_none o = false

-- WHICH KINDS AN ACCESS WRITES, where nothing stops it
abbrev pub writes_kind : Access → Object → Bool
writes_kind (access.Show term bytes column) = is_at_terminal
writes_kind (access.ReadLine term) = is_at_terminal
writes_kind (access.Insert term bytes) = is_at_terminal
writes_kind (access.Key term) = is_at_terminal
writes_kind (access.Release term) = is_at_terminal
writes_kind (access.PrintTo addr bytes column) = is_printed
writes_kind (access.OpenDevices addrs) = is_hold
writes_kind (access.CloseDevices addrs) = is_hold
writes_kind (access.PutLine line atoms homes) = is_edited
writes_kind (access.Erase from to homes) = is_edited
writes_kind (access.ClearAll name homes) = is_cleared
writes_kind (access.LoadProgram addr name replace declared homes) = is_loaded
writes_kind (access.Enter name mark) = is_borrow
writes_kind (access.Leave home) = is_borrow
writes_kind (access.Drop homes) = is_borrow
writes_kind (access.Declare name old) = is_name
writes_kind (access.FindPart name) = is_none
writes_kind (access.Limits addr name) = is_none
writes_kind (access.ListDisk addr) = is_none
writes_kind (access.DataOpen addr name) = is_none
writes_kind (access.DataLoad slot kinds) = is_none
writes_kind (access.Skip slot way) = is_none
writes_kind (access.RawLoad addr at kinds) = is_none
writes_kind (access.BlockLoad addr at) = is_none
writes_kind a = is_image

-- ---- an object among some is of their kind

module _ (kind : Object → Bool) (o : Object) where
  in_one : (x : Object) → kind x ≡ true → IsIn o (x ∷ []) → kind o ≡ true
  in_one x is i = elim i [ inl e ↦ ap kind e ∙ is | inr none ↦ absurd none ]

  in_more : (x : Object) (xs : List Object) → kind x ≡ true → (IsIn o xs → kind o ≡ true) → IsIn o (x ∷ xs) → kind o ≡ true
  in_more x xs is rest i = elim i [ inl e ↦ ap kind e ∙ is | inr j ↦ rest j ]

  in_both : (xs ys : List Object) → (IsIn o xs → kind o ≡ true) → (IsIn o ys → kind o ≡ true) → IsIn o (xs ++ ys) → kind o ≡ true
  in_both [] ys h k i = k i
  in_both (x ∷ xs) ys h k i = elim i [ inl e ↦ h (inl e) | inr j ↦ in_both xs ys (λ l. h (inr l)) k j ]

  in_holds : ((a : List ℕ) → kind (object.Hog a) ≡ true) → (addrs : List (List ℕ)) → IsIn o (objects_held addrs) → kind o ≡ true
  in_holds all [] i = absurd i
  in_holds all (a ∷ addrs) i = elim i [ inl e ↦ ap kind e ∙ all a | inr j ↦ in_holds all addrs j ]

  in_names : ((n : List ℕ) → kind (object.Name n) ≡ true) → (ns : List (List ℕ)) → IsIn o (map object.Name ns) → kind o ≡ true
  in_names all [] i = absurd i
  in_names all (n ∷ ns) i = elim i [ inl e ↦ ap kind e ∙ all n | inr j ↦ in_names all ns j ]

  in_borrows : ((h : ℕ) → kind (object.Borrow h) ≡ true) → (homes : List ℕ) → IsIn o (borrows homes) → kind o ≡ true
  in_borrows all [] i = absurd i
  in_borrows all (h ∷ homes) i = elim i [ inl e ↦ ap kind e ∙ all h | inr j ↦ in_borrows all homes j ]

  in_entered : ((h : ℕ) → kind (object.Borrow h) ≡ true) → (holder : Option ℕ) → IsIn o (borrow_entered holder) → kind o ≡ true
  in_entered all None i = absurd i
  in_entered all (Some g) i = in_one (object.Borrow g) (all g) i

-- so what an access writes is of its kinds
pub writes_of_kind : (who : ℕ) (holder : Option ℕ) (o : Object) (a : Access) → IsIn o ((row a).writes who holder) → writes_kind a o ≡ true
writes_of_kind who holder o (access.PutLine line atoms homes) i =
    in_more is_edited o (object.Text who) (borrows (homes_marked homes)) refl (in_borrows is_edited o (λ h. refl) (homes_marked homes)) i
writes_of_kind who holder o (access.Erase from to homes) i =
    in_more is_edited o (object.Text who) (borrows (homes_marked homes)) refl (in_borrows is_edited o (λ h. refl) (homes_marked homes)) i
writes_of_kind who holder o (access.ClearAll name homes) i =
    in_more is_cleared o (object.Text who) (object.Globals who ∷ (borrows (homes_marked homes) ++ objects_named name)) refl
    (in_more is_cleared o (object.Globals who) (borrows (homes_marked homes) ++ objects_named name) refl
    (in_both is_cleared o (borrows (homes_marked homes)) (objects_named name) (in_borrows is_cleared o (λ h. refl) (homes_marked homes)) (in_names is_cleared o (λ n. refl) (if_any name)))) i
writes_of_kind who holder o (access.LoadProgram addr name replace declared homes) i =
    in_more is_loaded o (object.Text who) (borrows (homes_marked homes) ++ objects_named declared) refl
    (in_both is_loaded o (borrows (homes_marked homes)) (objects_named declared) (in_borrows is_loaded o (λ h. refl) (homes_marked homes)) (in_names is_loaded o (λ n. refl) (if_any declared))) i
writes_of_kind who holder o (access.Enter name mark) i = in_entered is_borrow o (λ h. refl) holder i
writes_of_kind who holder o (access.Drop homes) i = in_borrows is_borrow o (λ h. refl) (homes_marked homes) i
writes_of_kind who holder o (access.OpenDevices addrs) i = in_holds is_hold o (λ a. refl) addrs i
writes_of_kind who holder o (access.CloseDevices addrs) i = in_holds is_hold o (λ a. refl) addrs i
writes_of_kind who holder o (access.Declare name old) i = in_names is_name o (λ n. refl) (names_of name old) i
writes_of_kind who holder o (access.FindPart name) i = absurd i
writes_of_kind who holder o (access.Limits addr name) i = absurd i
writes_of_kind who holder o (access.ListDisk addr) i = absurd i
writes_of_kind who holder o (access.DataOpen addr name) i = absurd i
writes_of_kind who holder o (access.DataLoad slot kinds) i = absurd i
writes_of_kind who holder o (access.Skip slot way) i = absurd i
writes_of_kind who holder o (access.RawLoad addr at kinds) i = absurd i
writes_of_kind who holder o (access.BlockLoad addr at) i = absurd i
writes_of_kind who holder o a i = in_one (writes_kind a) o _ refl i

-- and an object of another kind is written by none
pub unwritten : (who : ℕ) (holder : Option ℕ) (o : Object) (a : Access) → writes_kind a o ≡ false → IsIn o ((row a).writes who holder) → ⊥
unwritten who holder o a never i = false≢true (sym never ∙ writes_of_kind who holder o a i)
