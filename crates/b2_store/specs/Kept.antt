-- What a plain store keeps: objects with what they have, in a list that is walked from the front.
use Rattle.std.specs.Prelude.{ℕ, ◌==◌, Bool, false, List, [], ◌∷◌, ◌++◌, Option, Some, None, if◌then◌else◌}
use Rattle.std.specs.Str.{bytes_eq}
use Rattle.b2_text.specs.Program.{TextState}
use Rattle.b2_term.specs.Terminal.{TerminalState}
use Rattle.b2_access.specs.declared.objects.Object.{Object}
use Rattle.b2_access.specs.declared.objects.Object.TheVariants as object
use Rattle.b2_access.specs.Store.{ContentOf, StoreState}
use Rattle.b2_store.specs.Spares.{GlobalsRows}
use Rattle.b2_store.specs.declared.kept_item.Kept.{Kept}
use Rattle.b2_store.specs.declared.kept_item.Kept.TheVariants as kept

-- whether an item is an object
abbrev pub is_kept : Object → Kept → Bool
is_kept (object.Text p) (kept.Text q x) = q == p
is_kept (object.Borrow p) (kept.Borrow q x) = q == p
is_kept (object.Terminal t) (kept.Terminal u x) = u == t
is_kept (object.Printer a) (kept.Printer b x) = bytes_eq b a
is_kept (object.Platter a) (kept.Platter b x) = bytes_eq b a
is_kept (object.Hog a) (kept.Hog b x) = bytes_eq b a
is_kept (object.Name n) (kept.Name m x) = bytes_eq m n
is_kept o k = false

-- what an item has, of each kind
abbrev pub text_in : Kept → Option TextState
text_in (kept.Text p x) = Some x
text_in k = None

abbrev pub inside_in : Kept → Option (List ℕ)
inside_in (kept.Borrow p x) = Some x
inside_in k = None

abbrev pub terminal_in : Kept → Option TerminalState
terminal_in (kept.Terminal t x) = Some x
terminal_in k = None

abbrev pub printer_in : Kept → Option (List ℕ)
printer_in (kept.Printer a x) = Some x
printer_in k = None

abbrev pub platter_in : Kept → Option (List ℕ)
platter_in (kept.Platter a x) = Some x
platter_in k = None

abbrev pub holder_in : Kept → Option (Option ℕ)
holder_in (kept.Hog a x) = Some x
holder_in (kept.Name n x) = Some x
holder_in k = None

-- an item with another content; one of another kind stays
abbrev pub with_text : Kept → TextState → Kept
with_text (kept.Text p x) y = kept.Text p y
with_text k y = k

abbrev pub with_inside : Kept → List ℕ → Kept
with_inside (kept.Borrow p x) y = kept.Borrow p y
with_inside k y = k

abbrev pub with_terminal : Kept → TerminalState → Kept
with_terminal (kept.Terminal t x) y = kept.Terminal t y
with_terminal k y = k

abbrev pub with_printer : Kept → List ℕ → Kept
with_printer (kept.Printer a x) y = kept.Printer a y
with_printer k y = k

abbrev pub with_platter : Kept → List ℕ → Kept
with_platter (kept.Platter a x) y = kept.Platter a y
with_platter k y = k

abbrev pub with_holder : Kept → Option ℕ → Kept
with_holder (kept.Hog a x) y = kept.Hog a y
with_holder (kept.Name n x) y = kept.Name n y
with_holder k y = k

-- the same by an object
abbrev pub kept_content : (o : Object) → Kept → Option (ContentOf o)
kept_content (object.Text p) k = text_in k
kept_content (object.Borrow p) k = inside_in k
kept_content (object.Globals p) k = None
kept_content (object.Terminal t) k = terminal_in k
kept_content (object.Printer a) k = printer_in k
kept_content (object.Platter a) k = platter_in k
kept_content (object.Hog a) k = holder_in k
kept_content (object.Name n) k = holder_in k

abbrev pub with_kept : (o : Object) → Kept → ContentOf o → Kept
with_kept (object.Text p) k c = with_text k c
with_kept (object.Borrow p) k c = with_inside k c
with_kept (object.Globals p) k c = k
with_kept (object.Terminal t) k c = with_terminal k c
with_kept (object.Printer a) k c = with_printer k c
with_kept (object.Platter a) k c = with_platter k c
with_kept (object.Hog a) k c = with_holder k c
with_kept (object.Name n) k c = with_holder k c

-- THE FIRST OF A LIST that passes a test, another one in its place, and it changed
abbrev pub first_kept : (Kept → Bool) → List Kept → Option Kept
first_kept test [] = None
first_kept test (x ∷ xs) = if test x then Some x else first_kept test xs

abbrev pub with_first : (Kept → Bool) → List Kept → Kept → List Kept
with_first test [] y = []
with_first test (x ∷ xs) y = if test x then y ∷ xs else x ∷ with_first test xs y

abbrev pub first_changed : (Kept → Bool) → (Kept → Kept) → List Kept → List Kept
first_changed test change [] = []
first_changed test change (x ∷ xs) = if test x then change x ∷ xs else x ∷ first_changed test change xs

-- what the first item of an object has, and the list where it has something else
abbrev pub content_if : (o : Object) → Option Kept → Option (ContentOf o)
content_if o None = None
content_if o (Some k) = kept_content o k

abbrev pub first_content : (o : Object) → List Kept → Option (ContentOf o)
first_content o xs = content_if o (first_kept (is_kept o) xs)

abbrev pub with_first_content : (o : Object) → List Kept → ContentOf o → List Kept
with_first_content o xs c = first_changed (is_kept o) (λ k. with_kept o k c) xs

-- a name with another holder, in one more item where it has none
abbrev pub named_in : Option (Option ℕ) → List ℕ → List Kept → Option ℕ → List Kept
named_in None n xs holder = xs ++ kept.Name n holder ∷ []
named_in (Some old) n xs holder = with_first_content (object.Name n) xs holder

abbrev pub with_name : List ℕ → List Kept → Option ℕ → List Kept
with_name n xs holder = named_in (first_content (object.Name n) xs) n xs holder

-- THE STORE IN A LIST: the rows of a kind in the order in which its items stand, beside rows of `@` variables
abbrev pub before : Kept → StoreState → StoreState
before (kept.Text p x) s = record s { texts = (p, x) ∷ s.texts }
before (kept.Borrow p x) s = record s { borrows = (p, x) ∷ s.borrows }
before (kept.Terminal t x) s = record s { terminals = (t, x) ∷ s.terminals }
before (kept.Printer a x) s = record s { printers = (a, x) ∷ s.printers }
before (kept.Platter a x) s = record s { platters = (a, x) ∷ s.platters }
before (kept.Hog a x) s = record s { hogs = (a, x) ∷ s.hogs }
before (kept.Name n x) s = record s { names = (n, x) ∷ s.names }

abbrev pub all_before : List Kept → StoreState → StoreState
all_before [] s = s
all_before (x ∷ xs) s = before x (all_before xs s)

abbrev pub nothing : StoreState
nothing = record { texts = []; borrows = []; globals = []; terminals = []; printers = []; platters = []; hogs = []; names = [] }

abbrev pub store_in : GlobalsRows → List Kept → StoreState
store_in rows xs = record (all_before xs nothing) { globals = rows }

-- ITEMS OF ROWS
abbrev pub text_item : ℕ × TextState → Kept
text_item row = kept.Text row.0 row.1

abbrev pub inside_item : ℕ × List ℕ → Kept
inside_item row = kept.Borrow row.0 row.1

abbrev pub terminal_item : ℕ × TerminalState → Kept
terminal_item row = kept.Terminal row.0 row.1

abbrev pub printer_item : List ℕ × List ℕ → Kept
printer_item row = kept.Printer row.0 row.1

abbrev pub platter_item : List ℕ × List ℕ → Kept
platter_item row = kept.Platter row.0 row.1

abbrev pub hog_item : List ℕ × Option ℕ → Kept
hog_item row = kept.Hog row.0 row.1
