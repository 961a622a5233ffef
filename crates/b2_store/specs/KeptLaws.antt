-- What a list of items means: what is found in it is what the store has, and a change of the first item of an object is one of the object.
use Rattle.std.specs.Prelude.{◌≡◌, ℕ, ◌==◌, Bool, true, false, cond, List, [], ◌∷◌, ◌++◌, map, Option, Some, None, if◌then◌else◌, refl}
use Rattle.std.proofs.Common.{ap, ◌∙◌}
use Rattle.std.specs.Map.{set_value}
use Rattle.std.specs.Str.{bytes_eq}
use Rattle.b2_text.specs.Program.{TextState}
use Rattle.b2_term.specs.Terminal.{TerminalState}
use Rattle.b2_access.specs.declared.objects.Object.{Object}
use Rattle.b2_access.specs.declared.objects.Object.TheVariants as object
use Rattle.b2_access.specs.Rows.{device_row, row_of, with_device_row, with_or_added}
use Rattle.b2_access.specs.Store.{ContentOf, StoreState, put}
use Rattle.b2_store.specs.Kept.{all_before, before, content_if, first_content, first_kept, hog_item, inside_item, is_kept, kept_content, named_in, nothing, platter_item, printer_item, terminal_item, text_item, with_first_content, with_kept, with_name}
use Rattle.b2_store.specs.declared.kept_item.Kept.{Kept}
use Rattle.b2_store.specs.declared.kept_item.Kept.TheVariants as kept

-- what has a row, and the rows with another content: of names too
abbrev pub listed : StoreState → (o : Object) → Option (ContentOf o)
listed s (object.Text p) = row_of p s.texts
listed s (object.Borrow p) = row_of p s.borrows
listed s (object.Globals p) = row_of p s.globals
listed s (object.Terminal t) = row_of t s.terminals
listed s (object.Printer a) = device_row a s.printers
listed s (object.Platter a) = device_row a s.platters
listed s (object.Hog a) = device_row a s.hogs
listed s (object.Name n) = device_row n s.names

abbrev pub put_row : (o : Object) → ContentOf o → StoreState → StoreState
put_row (object.Name n) c s = record s { names = with_device_row n s.names c }
put_row o c s = put o c s

-- WHAT IS FOUND
none_listed : (o : Object) → None ≡ listed nothing o
none_listed (object.Text p) = refl
none_listed o = refl

first_listed : (o : Object) (k : Kept) (s : StoreState) → (if is_kept o k then kept_content o k else listed s o) ≡ listed (before k s) o
first_listed (object.Text p) (kept.Text q x) s = refl
first_listed (object.Borrow p) (kept.Text q x) s = refl
first_listed (object.Globals p) (kept.Text q x) s = refl
first_listed (object.Terminal t) (kept.Text q x) s = refl
first_listed (object.Printer a) (kept.Text q x) s = refl
first_listed (object.Platter a) (kept.Text q x) s = refl
first_listed (object.Hog a) (kept.Text q x) s = refl
first_listed (object.Name n) (kept.Text q x) s = refl
first_listed o k s = refl

pub found : (o : Object) (xs : List Kept) → first_content o xs ≡ listed (all_before xs nothing) o
found o [] = none_listed o
found o (k ∷ xs) = by (is_kept o k) (found o xs) ∙ first_listed o k (all_before xs nothing)
  where
    by : (b : Bool) → first_content o xs ≡ listed (all_before xs nothing) o → content_if o (if b then Some k else first_kept (is_kept o) xs) ≡ (if b then kept_content o k else listed (all_before xs nothing) o)
    by true later = refl
    by false later = later

-- WHAT IS CHANGED
none_put : (o : Object) (c : ContentOf o) → nothing ≡ put_row o c nothing
none_put (object.Text p) c = refl
none_put o c = refl

first_put : (o : Object) (k : Kept) (c : ContentOf o) (s : StoreState) → before (if is_kept o k then with_kept o k c else k) (if is_kept o k then s else put_row o c s) ≡ put_row o c (before k s)
first_put (object.Text p) (kept.Text q x) c s = by (q == p)
  where
    by : (b : Bool) → before (if b then kept.Text q c else kept.Text q x) (if b then s else put_row (object.Text p) c s) ≡ record s { texts = cond b ((q, c) ∷ s.texts) ((q, x) ∷ set_value (λ k. k == p) s.texts c) }
    by true = refl
    by false = refl
first_put (object.Borrow p) (kept.Borrow q x) c s = by (q == p)
  where
    by : (b : Bool) → before (if b then kept.Borrow q c else kept.Borrow q x) (if b then s else put_row (object.Borrow p) c s) ≡ record s { borrows = cond b ((q, c) ∷ s.borrows) ((q, x) ∷ set_value (λ k. k == p) s.borrows c) }
    by true = refl
    by false = refl
first_put (object.Terminal p) (kept.Terminal q x) c s = by (q == p)
  where
    by : (b : Bool) → before (if b then kept.Terminal q c else kept.Terminal q x) (if b then s else put_row (object.Terminal p) c s) ≡ record s { terminals = cond b ((q, c) ∷ s.terminals) ((q, x) ∷ set_value (λ k. k == p) s.terminals c) }
    by true = refl
    by false = refl
first_put (object.Printer a) (kept.Printer d x) c s = by (bytes_eq d a)
  where
    by : (b : Bool) → before (if b then kept.Printer d c else kept.Printer d x) (if b then s else put_row (object.Printer a) c s) ≡ record s { printers = cond b ((d, c) ∷ s.printers) ((d, x) ∷ set_value (λ k. bytes_eq k a) s.printers c) }
    by true = refl
    by false = refl
first_put (object.Platter a) (kept.Platter d x) c s = by (bytes_eq d a)
  where
    by : (b : Bool) → before (if b then kept.Platter d c else kept.Platter d x) (if b then s else put_row (object.Platter a) c s) ≡ record s { platters = cond b ((d, c) ∷ s.platters) ((d, x) ∷ set_value (λ k. bytes_eq k a) s.platters c) }
    by true = refl
    by false = refl
first_put (object.Hog a) (kept.Hog d x) c s = by (bytes_eq d a)
  where
    by : (b : Bool) → before (if b then kept.Hog d c else kept.Hog d x) (if b then s else put_row (object.Hog a) c s) ≡ record s { hogs = cond b ((d, c) ∷ s.hogs) ((d, x) ∷ set_value (λ k. bytes_eq k a) s.hogs c) }
    by true = refl
    by false = refl
first_put (object.Name n) (kept.Name m x) c s = by (bytes_eq m n)
  where
    by : (b : Bool) → before (if b then kept.Name m c else kept.Name m x) (if b then s else put_row (object.Name n) c s) ≡ record s { names = cond b ((m, c) ∷ s.names) ((m, x) ∷ set_value (λ k. bytes_eq k n) s.names c) }
    by true = refl
    by false = refl
first_put (object.Globals p) (kept.Text q x) c s = refl
first_put o k c s = refl

pub changed : (o : Object) (xs : List Kept) (c : ContentOf o) → all_before (with_first_content o xs c) nothing ≡ put_row o c (all_before xs nothing)
changed o [] c = none_put o c
changed o (k ∷ xs) c = by (is_kept o k) (changed o xs c) ∙ first_put o k c (all_before xs nothing)
  where
    by : (b : Bool) → all_before (with_first_content o xs c) nothing ≡ put_row o c (all_before xs nothing)
        → all_before (if b then with_kept o k c ∷ xs else k ∷ with_first_content o xs c) nothing
        ≡ before (if b then with_kept o k c else k) (if b then all_before xs nothing else put_row o c (all_before xs nothing))
    by true later = refl
    by false later = ap (before k) later

-- A NAME MORE stands last
abbrev name_added : List ℕ → Option ℕ → StoreState → StoreState
name_added n holder s = record s { names = s.names ++ (n, holder) ∷ [] }

past_name : (k : Kept) (n : List ℕ) (holder : Option ℕ) (s : StoreState) → before k (name_added n holder s) ≡ name_added n holder (before k s)
past_name (kept.Text p x) n holder s = refl
past_name k n holder s = refl

added : (n : List ℕ) (holder : Option ℕ) (xs : List Kept) → all_before (xs ++ kept.Name n holder ∷ []) nothing ≡ name_added n holder (all_before xs nothing)
added n holder [] = refl
added n holder (k ∷ xs) = ap (before k) (added n holder xs) ∙ past_name k n holder (all_before xs nothing)

pub named : (n : List ℕ) (xs : List Kept) (holder : Option ℕ) → all_before (with_name n xs holder) nothing ≡ put (object.Name n) holder (all_before xs nothing)
named n xs holder =
    ap (λ (o : Option (Option ℕ)). all_before (named_in o n xs holder) nothing) (found (object.Name n) xs) ∙ by (device_row n (all_before xs nothing).names)
  where
    by : (o : Option (Option ℕ)) → all_before (named_in o n xs holder) nothing ≡ record (all_before xs nothing) { names = with_or_added o n (all_before xs nothing).names holder }
    by None = added n holder xs
    by (Some old) = changed (object.Name n) xs holder

-- ITEMS OF ROWS, kind after kind
appended : (xs ys : List Kept) (s : StoreState) → all_before (xs ++ ys) s ≡ all_before xs (all_before ys s)
appended [] ys s = refl
appended (x ∷ xs) ys s = ap (before x) (appended xs ys s)

texts_before : (rows : List (ℕ × TextState)) (s : StoreState) → all_before (map text_item rows) (record s { texts = [] }) ≡ record s { texts = rows }
texts_before [] s = refl
texts_before (row ∷ rows) s = ap (before (text_item row)) (texts_before rows s)

insides_before : (rows : List (ℕ × List ℕ)) (s : StoreState) → all_before (map inside_item rows) (record s { borrows = [] }) ≡ record s { borrows = rows }
insides_before [] s = refl
insides_before (row ∷ rows) s = ap (before (inside_item row)) (insides_before rows s)

terminals_before : (rows : List (ℕ × TerminalState)) (s : StoreState) → all_before (map terminal_item rows) (record s { terminals = [] }) ≡ record s { terminals = rows }
terminals_before [] s = refl
terminals_before (row ∷ rows) s = ap (before (terminal_item row)) (terminals_before rows s)

printers_before : (rows : List (List ℕ × List ℕ)) (s : StoreState) → all_before (map printer_item rows) (record s { printers = [] }) ≡ record s { printers = rows }
printers_before [] s = refl
printers_before (row ∷ rows) s = ap (before (printer_item row)) (printers_before rows s)

platters_before : (rows : List (List ℕ × List ℕ)) (s : StoreState) → all_before (map platter_item rows) (record s { platters = [] }) ≡ record s { platters = rows }
platters_before [] s = refl
platters_before (row ∷ rows) s = ap (before (platter_item row)) (platters_before rows s)

hogs_before : (rows : List (List ℕ × Option ℕ)) (s : StoreState) → all_before (map hog_item rows) (record s { hogs = [] }) ≡ record s { hogs = rows }
hogs_before [] s = refl
hogs_before (row ∷ rows) s = ap (before (hog_item row)) (hogs_before rows s)

module _ (s : StoreState) where
  abbrev pub items_of : List Kept
  items_of = ((((map text_item s.texts ++ map inside_item s.borrows) ++ map terminal_item s.terminals) ++ map printer_item s.printers) ++ map platter_item s.platters) ++ map hog_item s.hogs

  abbrev all_listed : List Kept → List Kept → List Kept → List Kept → List Kept → StoreState → StoreState
  all_listed t b e p d x = all_before t (all_before b (all_before e (all_before p (all_before d x))))

  in_turn : (t b e p d h : List Kept) → all_before (((((t ++ b) ++ e) ++ p) ++ d) ++ h) nothing ≡ all_listed t b e p d (all_before h nothing)
  in_turn t b e p d h =
      appended ((((t ++ b) ++ e) ++ p) ++ d) h nothing
      ∙ appended (((t ++ b) ++ e) ++ p) d (all_before h nothing)
      ∙ appended ((t ++ b) ++ e) p (all_before d (all_before h nothing))
      ∙ appended (t ++ b) e (all_before p (all_before d (all_before h nothing)))
      ∙ appended t b (all_before e (all_before p (all_before d (all_before h nothing))))

  abbrev with_hogs : StoreState
  with_hogs = record nothing { hogs = s.hogs }

  abbrev with_platters : StoreState
  with_platters = record with_hogs { platters = s.platters }

  abbrev with_printers : StoreState
  with_printers = record with_platters { printers = s.printers }

  abbrev with_terminals : StoreState
  with_terminals = record with_printers { terminals = s.terminals }

  abbrev with_insides : StoreState
  with_insides = record with_terminals { borrows = s.borrows }

  pub filled : all_before items_of nothing ≡ record with_insides { texts = s.texts }
  filled =
      let t = map text_item s.texts in
      let b = map inside_item s.borrows in
      let e = map terminal_item s.terminals in
      let p = map printer_item s.printers in
      let d = map platter_item s.platters in
      in_turn t b e p d (map hog_item s.hogs)
      ∙ ap (all_listed t b e p d) (hogs_before s.hogs nothing)
      ∙ ap (λ (x : StoreState). all_before t (all_before b (all_before e (all_before p x)))) (platters_before s.platters with_hogs)
      ∙ ap (λ (x : StoreState). all_before t (all_before b (all_before e x))) (printers_before s.printers with_platters)
      ∙ ap (λ (x : StoreState). all_before t (all_before b x)) (terminals_before s.terminals with_printers)
      ∙ ap (all_before t) (insides_before s.borrows with_terminals)
      ∙ texts_before s.texts with_insides
