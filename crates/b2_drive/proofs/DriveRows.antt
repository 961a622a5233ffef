-- Drives by their rows: the device after `T/`, or `T` alone; and the address of SELECT DISK.
use Rattle.std.proofs.Common.{◌≡◌, ℕ, ◌==◌, ◌&&◌, nat_lt, Bool, true, false, if◌then◌else◌, List, [], ◌∷◌, drop, Option, Some, None, refl, ap, ◌∙◌}
use Rattle.b2_base.specs.Byte as byte
use Rattle.b2_base.specs.Lexical.{first}
use Rattle.b2_base.specs.declared.codes.TheConstants.{S13_SEPARATOR, S23_DEVICE}
use Rattle.b2_atom.specs.Words.{Text}
use Rattle.b2_atom.specs.Leaves.{is_hex_at, leaf_width}
use Rattle.b2_atom.specs.Tokens.Token.{Coded}
use Rattle.b2_atom.specs.Tree.{Trees}
use Rattle.b2_atom.specs.Tree.Trees.{Done, Put, In}
use Rattle.b2_atom.specs.Grammar.{row_items, starts}
use Rattle.b2_atom.specs.declared.words.Origin.TheVariants.{Atoms}
use Rattle.b2_atom.specs.declared.words.TheConstants as word
use Rattle.b2_atom.specs.declared.rows.TheConstants as row
use Rattle.b2_atom.specs.declared.forms.Start.{Start}
use Rattle.b2_atom.specs.declared.forms.Start.TheVariants as start
use Rattle.b2_atom.specs.declared.forms.Leaf.TheVariants as leaf
use Rattle.b2_atom.specs.declared.forms.Item.{Item}
use Rattle.b2_atom.specs.declared.forms.Item.TheVariants.{Word, Sign, Comma, LeftOut, Typed, Part, Maybe, Either}
use Rattle.b2_rows.specs.Leaves.{is_leaf, leaf_bytes}
use Rattle.b2_rows.specs.Rows.{is_phrase, tree_at, after_phrase, When}
use Rattle.b2_rows.specs.Choices.{ReadAs, second_branch}
use Rattle.b2_rows.proofs.Choices.{either_first, either_second}
use Rattle.b2_rows.proofs.RowsRead.{stands_of}
use Rattle.b2_drive.specs.Drives.{DrivesSeen, address_in, device_at, device_named, drive_used, platter_meant, platter_used, selects}

-- a choice between what is left out and a row is that row
left_out_row : row_items row.LEFT_OUT ≡ LeftOut ∷ []
unfolding row_items
left_out_row = refl

pub not_left_out : {A : Type 0} (t : Text) → is_phrase row.LEFT_OUT t ≡ true → A
not_left_out t ok = absurd (stands_of row.LEFT_OUT (LeftOut ∷ []) t left_out_row ok).0

kept_by : (b : Bool) (n m : ℕ) (s : Start) (t : Text) → starts Atoms s t ≡ b → row_items n ≡ Either s row.LEFT_OUT m ∷ [] → is_phrase n t ≡ true → ReadAs n m second_branch t
kept_by true n m s t is same ok = not_left_out t (ReadAs.part (either_first n row.LEFT_OUT m s t same ok is))
kept_by false n m s t is same ok = either_second n row.LEFT_OUT m s t same ok is

kept : (n m : ℕ) (s : Start) (t : Text) → row_items n ≡ Either s row.LEFT_OUT m ∷ [] → is_phrase n t ≡ true → ReadAs n m second_branch t
kept n m s t same ok = kept_by (starts Atoms s t) n m s t refl same ok

-- an address is three bytes
width_by : (b : Bool) (n : ℕ) → nat_lt 0 (if b then n else 0) ≡ true → (if b then n else 0) ≡ n
width_by true n h = refl
width_by false n h = cc

address_width : (t : Text) → is_leaf leaf.Address t ≡ true → leaf_width Atoms leaf.Address t ≡ 3
address_width t ok = width_by (is_hex_at Atoms t 0 && (is_hex_at Atoms t 1 && is_hex_at Atoms t 2)) 3 ok

pub slash_starts : (t : Text) (b : Bool) → (first t == byte.slash) ≡ b → starts Atoms (start.Code byte.slash) t ≡ b
unfolding starts
slash_starts t b is = is

-- a device
abbrev device_items : List Item
device_items = Sign byte.slash S23_DEVICE ∷ Typed leaf.Address S23_DEVICE ∷ []

device_row : row_items row.DEVICE ≡ device_items
unfolding row_items
device_row = refl

pub address_here : (t : Text) → is_phrase row.DEVICE t ≡ true → is_leaf leaf.Address (drop 1 t) ≡ true
address_here t ok = (stands_of row.DEVICE device_items t device_row ok).0.1.0

pub address_is : (t : Text) → is_phrase row.DEVICE t ≡ true → address_in (tree_at row.DEVICE t) ≡ leaf_bytes leaf.Address (drop 1 t)
address_is t ok = ap address_in (stands_of row.DEVICE device_items t device_row ok).1

pub after_device : (t : Text) → is_phrase row.DEVICE t ≡ true → after_phrase row.DEVICE t ≡ drop 3 (drop 1 t)
after_device t ok =
    (stands_of row.DEVICE device_items t device_row ok).2 ∙ ap (λ (n : ℕ). drop n (drop 1 t)) (address_width (drop 1 t) (address_here t ok))

-- one way or the other
taken : (b : Bool) (x y : Type 0) → b ≡ true → When b x y → x
taken true x y is h = h
taken false x y is h = cc

other : (b : Bool) (x y : Type 0) → b ≡ false → When b x y → y
other true x y is h = cc
other false x y is h = h

-- a drive at the end of a statement
last_row : row_items row.DRIVE ≡ Either (start.Two byte.upper_f byte.upper_r) row.LEFT_OUT row.DRIVE_OF_T ∷ []
unfolding row_items
last_row = refl

abbrev of_t_items : List Item
of_t_items = Sign byte.upper_t S23_DEVICE ∷ Maybe (start.Code byte.slash) row.DEVICE ∷ []

of_t_row : row_items row.DRIVE_OF_T ≡ of_t_items
unfolding row_items
of_t_row = refl

last_kept : (t : Text) → is_phrase row.DRIVE t ≡ true → ReadAs row.DRIVE row.DRIVE_OF_T second_branch t
last_kept t ok = kept row.DRIVE row.DRIVE_OF_T (start.Two byte.upper_f byte.upper_r) t last_row ok

last_device : (t : Text) → is_phrase row.DRIVE t ≡ true → (first (drop 1 t) == byte.slash) ≡ true → is_phrase row.DEVICE (drop 1 t) ≡ true
last_device t ok is =
    (taken (starts Atoms (start.Code byte.slash) (drop 1 t)) _ _ (slash_starts (drop 1 t) true is) (stands_of row.DRIVE_OF_T of_t_items t of_t_row (ReadAs.part (last_kept t ok))).0.1).0

pub last_address : (t : Text) → is_phrase row.DRIVE t ≡ true → (first (drop 1 t) == byte.slash) ≡ true → is_leaf leaf.Address (drop 1 (drop 1 t)) ≡ true
last_address t ok is = address_here (drop 1 t) (last_device t ok is)

last_by : (t : Text) (b : Bool) → is_phrase row.DRIVE t ≡ true → (first (drop 1 t) == byte.slash) ≡ b
    → device_named (In 0 (Put (Coded byte.upper_t) (if b then In 1 (tree_at row.DEVICE (drop 1 t)) Done else In 0 Done Done)) Done) ≡ (if b then Some (leaf_bytes leaf.Address (drop 1 (drop 1 t))) else None)
last_by t true ok is = ap Some (address_is (drop 1 t) (last_device t ok is))
last_by t false ok is = refl

last_named : (t : Text) → is_phrase row.DRIVE t ≡ true → device_named (tree_at row.DRIVE t) ≡ device_at t
last_named t ok =
    let r = last_kept t ok in
    ap device_named (ReadAs.tree r)
    ∙ ap (λ (u : Trees). device_named (In 0 u Done)) (stands_of row.DRIVE_OF_T of_t_items t of_t_row (ReadAs.part r)).1
    ∙ ap (λ (b : Bool). device_named (In 0 (Put (Coded byte.upper_t) (if b then In 1 (tree_at row.DEVICE (drop 1 t)) Done else In 0 Done Done)) Done)) (slash_starts (drop 1 t) (first (drop 1 t) == byte.slash) refl)
    ∙ last_by t (first (drop 1 t) == byte.slash) ok refl

pub last_is : (d : DrivesSeen) (t : Text) → is_phrase row.DRIVE t ≡ true → drive_used d (tree_at row.DRIVE t) ≡ platter_used d (platter_meant (device_at t) d.selected)
last_is d t ok = ap (λ (o : Option (List ℕ)). platter_used d (platter_meant o d.selected)) (last_named t ok)

-- a drive with a comma after it
drive_row : row_items row.DRIVE_COMMA ≡ Either (start.Two byte.upper_f byte.upper_r) row.LEFT_OUT row.DRIVE_OF_T_COMMA ∷ []
unfolding row_items
drive_row = refl

abbrev of_t_comma_items : List Item
of_t_comma_items = Sign byte.upper_t S23_DEVICE ∷ Either (start.Code byte.slash) row.DEVICE_COMMA row.COMMA_AFTER_T ∷ []

of_t_comma_row : row_items row.DRIVE_OF_T_COMMA ≡ of_t_comma_items
unfolding row_items
of_t_comma_row = refl

abbrev device_comma_items : List Item
device_comma_items = Part row.DEVICE ∷ Sign byte.comma S13_SEPARATOR ∷ []

device_comma_row : row_items row.DEVICE_COMMA ≡ device_comma_items
unfolding row_items
device_comma_row = refl

comma_row : row_items row.COMMA_AFTER_T ≡ Comma ∷ []
unfolding row_items
comma_row = refl

drive_kept : (t : Text) → is_phrase row.DRIVE_COMMA t ≡ true → ReadAs row.DRIVE_COMMA row.DRIVE_OF_T_COMMA second_branch t
drive_kept t ok = kept row.DRIVE_COMMA row.DRIVE_OF_T_COMMA (start.Two byte.upper_f byte.upper_r) t drive_row ok

named_comma : (t : Text) → is_phrase row.DRIVE_COMMA t ≡ true → (first (drop 1 t) == byte.slash) ≡ true → is_phrase row.DEVICE_COMMA (drop 1 t) ≡ true
named_comma t ok is =
    (taken (starts Atoms (start.Code byte.slash) (drop 1 t)) _ _ (slash_starts (drop 1 t) true is) (stands_of row.DRIVE_OF_T_COMMA of_t_comma_items t of_t_comma_row (ReadAs.part (drive_kept t ok))).0.1).0

selected_comma : (t : Text) → is_phrase row.DRIVE_COMMA t ≡ true → (first (drop 1 t) == byte.slash) ≡ false → is_phrase row.COMMA_AFTER_T (drop 1 t) ≡ true
selected_comma t ok is =
    (other (starts Atoms (start.Code byte.slash) (drop 1 t)) _ _ (slash_starts (drop 1 t) false is) (stands_of row.DRIVE_OF_T_COMMA of_t_comma_items t of_t_comma_row (ReadAs.part (drive_kept t ok))).0.1).0

device_before : (t : Text) → is_phrase row.DEVICE_COMMA t ≡ true → is_phrase row.DEVICE t ≡ true
device_before t ok = (stands_of row.DEVICE_COMMA device_comma_items t device_comma_row ok).0.0

pub drive_address : (t : Text) → is_phrase row.DRIVE_COMMA t ≡ true → (first (drop 1 t) == byte.slash) ≡ true → is_leaf leaf.Address (drop 1 (drop 1 t)) ≡ true
drive_address t ok is = address_here (drop 1 t) (device_before (drop 1 t) (named_comma t ok is))

abbrev branches : Text → Bool → Trees
branches t b = if b then In 1 (tree_at row.DEVICE_COMMA (drop 1 t)) Done else In 0 (tree_at row.COMMA_AFTER_T (drop 1 t)) Done

drive_by : (t : Text) (b : Bool) → is_phrase row.DRIVE_COMMA t ≡ true → (first (drop 1 t) == byte.slash) ≡ b
    → device_named (In 0 (Put (Coded byte.upper_t) (branches t b)) Done) ≡ (if b then Some (leaf_bytes leaf.Address (drop 1 (drop 1 t))) else None)
drive_by t true ok is =
    let here = named_comma t ok is in
    ap Some (ap address_in (stands_of row.DEVICE_COMMA device_comma_items (drop 1 t) device_comma_row here).1 ∙ address_is (drop 1 t) (device_before (drop 1 t) here))
drive_by t false ok is = refl

drive_named : (t : Text) → is_phrase row.DRIVE_COMMA t ≡ true → device_named (tree_at row.DRIVE_COMMA t) ≡ device_at t
drive_named t ok =
    let r = drive_kept t ok in
    ap device_named (ReadAs.tree r)
    ∙ ap (λ (u : Trees). device_named (In 0 u Done)) (stands_of row.DRIVE_OF_T_COMMA of_t_comma_items t of_t_comma_row (ReadAs.part r)).1
    ∙ ap (λ (b : Bool). device_named (In 0 (Put (Coded byte.upper_t) (branches t b)) Done)) (slash_starts (drop 1 t) (first (drop 1 t) == byte.slash) refl)
    ∙ drive_by t (first (drop 1 t) == byte.slash) ok refl

pub drive_is : (d : DrivesSeen) (t : Text) → is_phrase row.DRIVE_COMMA t ≡ true → drive_used d (tree_at row.DRIVE_COMMA t) ≡ platter_used d (platter_meant (device_at t) d.selected)
drive_is d t ok = ap (λ (o : Option (List ℕ)). platter_used d (platter_meant o d.selected)) (drive_named t ok)

-- what stands after it
rest_by : (t : Text) (b : Bool) → starts Atoms (start.Code byte.slash) (drop 1 t) ≡ b → is_phrase row.DRIVE_COMMA t ≡ true
    → after_phrase row.DRIVE_COMMA t ≡ (if b then after_phrase row.DEVICE_COMMA (drop 1 t) else after_phrase row.COMMA_AFTER_T (drop 1 t))
rest_by t b is ok =
    let r = drive_kept t ok in
    ReadAs.rest r
    ∙ (stands_of row.DRIVE_OF_T_COMMA of_t_comma_items t of_t_comma_row (ReadAs.part r)).2
    ∙ ap (λ (x : Bool). if x then after_phrase row.DEVICE_COMMA (drop 1 t) else after_phrase row.COMMA_AFTER_T (drop 1 t)) is

pub after_named : (t : Text) → is_phrase row.DRIVE_COMMA t ≡ true → (first (drop 1 t) == byte.slash) ≡ true → after_phrase row.DRIVE_COMMA t ≡ drop 1 (drop 3 (drop 1 (drop 1 t)))
after_named t ok is =
    let here = named_comma t ok is in
    rest_by t true (slash_starts (drop 1 t) true is) ok
    ∙ (stands_of row.DEVICE_COMMA device_comma_items (drop 1 t) device_comma_row here).2
    ∙ ap (drop 1) (after_device (drop 1 t) (device_before (drop 1 t) here))

pub after_selected : (t : Text) → is_phrase row.DRIVE_COMMA t ≡ true → (first (drop 1 t) == byte.slash) ≡ false → after_phrase row.DRIVE_COMMA t ≡ drop 1 (drop 1 t)
after_selected t ok is =
    rest_by t false (slash_starts (drop 1 t) false is) ok
    ∙ (stands_of row.COMMA_AFTER_T (Comma ∷ []) (drop 1 t) comma_row (selected_comma t ok is)).2

-- SELECT DISK
abbrev select_items : List Item
select_items = Word word.SELECT ∷ Word word.DISK ∷ Typed leaf.Address S23_DEVICE ∷ []

select_row : row_items row.SELECT_DISK ≡ select_items
unfolding row_items
select_row = refl

pub select_address : (t : Text) → is_phrase row.SELECT_DISK t ≡ true → is_leaf leaf.Address (drop 1 (drop 1 t)) ≡ true
select_address t ok = (stands_of row.SELECT_DISK select_items t select_row ok).0.1.1.0

pub select_is : (d : DrivesSeen) (t : Text) → is_phrase row.SELECT_DISK t ≡ true → selects d (tree_at row.SELECT_DISK t) ≡ platter_used d (Some (leaf_bytes leaf.Address (drop 1 (drop 1 t))))
select_is d t ok = ap (selects d) (stands_of row.SELECT_DISK select_items t select_row ok).1
