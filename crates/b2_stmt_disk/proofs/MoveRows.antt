-- MOVE by its rows: the drive of what is moved and a name or none, and the other drive.
use Rattle.std.proofs.Common.{◌≡◌, ℕ, Bool, true, false, ◌==◌, ◌||◌, if◌then◌else◌, List, [], ◌∷◌, drop, Option, Some, None, Ok, refl, sym, ap, subst, ◌∙◌}
use Rattle.b2_base.specs.Byte as byte
use Rattle.b2_base.specs.Lexical.{first}
use Rattle.b2_base.specs.declared.codes.TheConstants.{S13_SEPARATOR, S23_DEVICE}
use Rattle.b2_atom.specs.Words.{Text}
use Rattle.b2_atom.specs.Tokens.Token.{Coded}
use Rattle.b2_atom.specs.Tree.{Trees}
use Rattle.b2_atom.specs.Tree.Trees.{Done, Put, In}
use Rattle.b2_atom.specs.Grammar.{row_items, starts, alpha_begins}
use Rattle.b2_atom.specs.declared.words.Origin.TheVariants.{Atoms}
use Rattle.b2_atom.specs.declared.words.TheConstants as word
use Rattle.b2_atom.specs.declared.rows.TheConstants as row
use Rattle.b2_atom.specs.declared.forms.Leaf.TheVariants as leaf
use Rattle.b2_atom.specs.declared.forms.Start.TheVariants as start
use Rattle.b2_atom.specs.declared.forms.Item.{Item}
use Rattle.b2_atom.specs.declared.forms.Item.TheVariants.{Word, Sign, Comma, Part, Maybe, Either}
use Rattle.b2_rows.specs.Leaves.{is_leaf, leaf_bytes}
use Rattle.b2_rows.specs.Rows.{is_phrase, tree_at, after_phrase, When}
use Rattle.b2_rows.proofs.RowsRead.{stands_of}
use Rattle.b2_expr.specs.Answers.{◌>>=◌}
use Rattle.b2_expr.specs.Scope.{Context}
use Rattle.b2_drive.specs.Drives.{DrivesSeen, device_at, drive_used, platter_meant, platter_used}
use Rattle.b2_drive.specs.FileNames.{name_given}
use Rattle.b2_drive.proofs.DriveRows.{address_here, address_is, after_device, not_left_out, slash_starts}
use Rattle.b2_stmt_disk.specs.Moving.{after_drive_from, asks_to_move, device_from, drive_from, file_in, file_moved, moves_apart, name_branch}

-- a name after a comma
record IsName (n : ℕ) (t : Text) : Type 0 where
  comma : first t ≡ byte.comma
  part : is_phrase row.ALPHA (drop 1 t) ≡ true
  tree : tree_at n t ≡ Put (Coded byte.comma) (In 2 (tree_at row.ALPHA (drop 1 t)) Done)
  rest : after_phrase n t ≡ after_phrase row.ALPHA (drop 1 t)

abbrev named_items : List Item
named_items = Sign byte.comma S13_SEPARATOR ∷ Part row.ALPHA ∷ []

named_row : row_items row.COMMA_ALPHA ≡ named_items
unfolding row_items
named_row = refl

named : (t : Text) → is_phrase row.COMMA_ALPHA t ≡ true → IsName row.COMMA_ALPHA t
named t ok = let s = stands_of row.COMMA_ALPHA named_items t named_row ok in record { comma = s.0.0; part = s.0.1.0; tree = s.1; rest = s.2 }

abbrev put_items : List Item
put_items = Comma ∷ Part row.ALPHA ∷ []

put_row : row_items row.COMMA_AFTER_T_AND_ALPHA ≡ put_items
unfolding row_items
put_row = refl

named_after_t : (t : Text) → is_phrase row.COMMA_AFTER_T_AND_ALPHA t ≡ true → IsName row.COMMA_AFTER_T_AND_ALPHA t
named_after_t t ok = let s = stands_of row.COMMA_AFTER_T_AND_ALPHA put_items t put_row ok in record { comma = s.0.0; part = s.0.1.0; tree = s.1; rest = s.2 }

-- or none
abbrev branch_at : Bool → Text → Trees
branch_at c t = if c then In 1 (Put (Coded byte.comma) (In 2 (tree_at row.ALPHA (drop 1 t)) Done)) Done else In 0 Done Done

abbrev rest_at : Bool → Text → Text
rest_at c t = if c then after_phrase row.ALPHA (drop 1 t) else t

record NameOrNone (c : Bool) (t : Text) (tree : Trees) (rest : Text) : Type 0 where
  part : c ≡ true → is_phrase row.ALPHA (drop 1 t) ≡ true
  tree_is : tree ≡ branch_at c t
  rest_is : rest ≡ rest_at c t

abbrev Begins : Bool → ℕ → Text → Type 0
Begins b n t = When b ((is_phrase n t ≡ true) × Unit {0}) (Unit {0})

or_none : (b : Bool) (n : ℕ) (t : Text) → Begins b n t → (is_phrase n t ≡ true → IsName n t) → NameOrNone b t (if b then In 1 (tree_at n t) Done else In 0 Done Done) (if b then after_phrase n t else t)
or_none true n t h f = let i = f h.0 in record { part = λ e. IsName.part i; tree_is = ap (λ (a : Trees). In 1 a Done) (IsName.tree i); rest_is = IsName.rest i }
or_none false n t h f = record { part = λ e. cc; tree_is = refl; rest_is = refl }

-- after a device, and after `T`: where something may begin that is typed without its comma, the comma stands there all the same
comma_starts : (t : Text) → starts Atoms (start.Code byte.comma) t ≡ (first t == byte.comma)
unfolding starts
comma_starts t = refl

or_by : (a b : Bool) (P : Type 0) → (P → a ≡ true) → When (a || b) (P × Unit {0}) (Unit {0}) → (a || b) ≡ a
or_by true b P f h = refl
or_by false true P f h = sym (f h.0)
or_by false false P f h = refl

is_comma : (t : Text) → first t ≡ byte.comma → (first t == byte.comma) ≡ true
is_comma t is = ap (λ (c : ℕ). c == byte.comma) is

alpha_starts : (t : Text) → Begins (starts Atoms start.CommaOrAlpha t) row.COMMA_AFTER_T_AND_ALPHA t → starts Atoms start.CommaOrAlpha t ≡ (first t == byte.comma)
unfolding starts
alpha_starts t h = or_by (first t == byte.comma) (alpha_begins Atoms t) (is_phrase row.COMMA_AFTER_T_AND_ALPHA t ≡ true) (λ ok. is_comma t (IsName.comma (named_after_t t ok))) h

-- what is moved
record IsMoved (after : Text) (t : Text) : Type 0 where
  device : device_from (tree_at row.MOVED t) ≡ device_at t
  name : NameOrNone (first after == byte.comma) after (name_branch (tree_at row.MOVED t)) (after_phrase row.MOVED t)

abbrev moved_items : List Item
moved_items = Sign byte.upper_t S23_DEVICE ∷ Either (start.Code byte.slash) row.MOVED_FROM_DEVICE row.MOVED_FROM_T ∷ []

moved_row : row_items row.MOVED ≡ moved_items
unfolding row_items
moved_row = refl

abbrev device_items : List Item
device_items = Part row.DEVICE ∷ Maybe (start.Code byte.comma) row.COMMA_ALPHA ∷ []

device_row : row_items row.MOVED_FROM_DEVICE ≡ device_items
unfolding row_items
device_row = refl

abbrev t_items : List Item
t_items = Maybe start.CommaOrAlpha row.COMMA_AFTER_T_AND_ALPHA ∷ []

t_row : row_items row.MOVED_FROM_T ≡ t_items
unfolding row_items
t_row = refl

-- one way or the other
taken : (b : Bool) (x y : Type 0) → b ≡ true → When b x y → x
taken true x y is h = h
taken false x y is h = cc

other : (b : Bool) (x y : Type 0) → b ≡ false → When b x y → y
other true x y is h = cc
other false x y is h = h

from_device : (t : Text) → is_phrase row.MOVED t ≡ true → (first (drop 1 t) == byte.slash) ≡ true → is_phrase row.MOVED_FROM_DEVICE (drop 1 t) ≡ true
from_device t ok is = (taken (starts Atoms (start.Code byte.slash) (drop 1 t)) _ _ (slash_starts (drop 1 t) true is) (stands_of row.MOVED moved_items t moved_row ok).0.1).0

from_t : (t : Text) → is_phrase row.MOVED t ≡ true → (first (drop 1 t) == byte.slash) ≡ false → is_phrase row.MOVED_FROM_T (drop 1 t) ≡ true
from_t t ok is = (other (starts Atoms (start.Code byte.slash) (drop 1 t)) _ _ (slash_starts (drop 1 t) false is) (stands_of row.MOVED moved_items t moved_row ok).0.1).0

device_here : (u : Text) → is_phrase row.MOVED_FROM_DEVICE u ≡ true → is_phrase row.DEVICE u ≡ true
device_here u ok = (stands_of row.MOVED_FROM_DEVICE device_items u device_row ok).0.0

pub moved_address : (t : Text) → is_phrase row.MOVED t ≡ true → (first (drop 1 t) == byte.slash) ≡ true → is_leaf leaf.Address (drop 1 (drop 1 t)) ≡ true
moved_address t ok is = address_here (drop 1 t) (device_here (drop 1 t) (from_device t ok is))

abbrev either_tree : Text → Bool → Trees
either_tree u b = Put (Coded byte.upper_t) (if b then In 1 (tree_at row.MOVED_FROM_DEVICE u) Done else In 0 (tree_at row.MOVED_FROM_T u) Done)

moved_tree : (t : Text) (b : Bool) → is_phrase row.MOVED t ≡ true → (first (drop 1 t) == byte.slash) ≡ b → tree_at row.MOVED t ≡ either_tree (drop 1 t) b
moved_tree t b ok is = (stands_of row.MOVED moved_items t moved_row ok).1 ∙ ap (either_tree (drop 1 t)) (slash_starts (drop 1 t) b is)

moved_rest : (t : Text) (b : Bool) → is_phrase row.MOVED t ≡ true → (first (drop 1 t) == byte.slash) ≡ b
    → after_phrase row.MOVED t ≡ (if b then after_phrase row.MOVED_FROM_DEVICE (drop 1 t) else after_phrase row.MOVED_FROM_T (drop 1 t))
moved_rest t b ok is =
    (stands_of row.MOVED moved_items t moved_row ok).2
    ∙ ap (λ (x : Bool). if x then after_phrase row.MOVED_FROM_DEVICE (drop 1 t) else after_phrase row.MOVED_FROM_T (drop 1 t)) (slash_starts (drop 1 t) b is)

-- the same of other trees and texts that are alike
alike : (c : Bool) (t : Text) (tree other_tree : Trees) (rest other_rest : Text) → other_tree ≡ tree → other_rest ≡ rest → NameOrNone c t tree rest → NameOrNone c t other_tree other_rest
alike c t tree other_tree rest other_rest e f n = record { part = NameOrNone.part n; tree_is = e ∙ NameOrNone.tree_is n; rest_is = f ∙ NameOrNone.rest_is n }

-- after a device
abbrev name_tree : Text → Bool → Trees
name_tree u b = if b then In 1 (tree_at row.COMMA_ALPHA u) Done else In 0 Done Done

abbrev name_rest : Text → Bool → Text
name_rest u b = if b then after_phrase row.COMMA_ALPHA u else u

device_name : (u : Text) → is_phrase row.MOVED_FROM_DEVICE u ≡ true
    → NameOrNone (first (after_phrase row.DEVICE u) == byte.comma) (after_phrase row.DEVICE u) (name_tree (after_phrase row.DEVICE u) (first (after_phrase row.DEVICE u) == byte.comma)) (name_rest (after_phrase row.DEVICE u) (first (after_phrase row.DEVICE u) == byte.comma))
device_name u ok =
    let r = after_phrase row.DEVICE u in
    let h : Begins (first r == byte.comma) row.COMMA_ALPHA r = subst (λ (b : Bool). Begins b row.COMMA_ALPHA r) (comma_starts r) (stands_of row.MOVED_FROM_DEVICE device_items u device_row ok).0.1 in
    or_none (first r == byte.comma) row.COMMA_ALPHA r h (named r)

of_device : (t : Text) → is_phrase row.MOVED t ≡ true → (first (drop 1 t) == byte.slash) ≡ true → IsMoved (drop 3 (drop 1 (drop 1 t))) t
of_device t ok is =
    let u = drop 1 t in
    let p = from_device t ok is in
    let r = after_phrase row.DEVICE u in
    let s = stands_of row.MOVED_FROM_DEVICE device_items u device_row p in
    let tree : tree_at row.MOVED t ≡ Put (Coded byte.upper_t) (In 1 (In 2 (tree_at row.DEVICE u) (name_tree r (first r == byte.comma))) Done) =
    moved_tree t true ok is ∙ ap (λ (a : Trees). Put (Coded byte.upper_t) (In 1 a Done)) (s.1 ∙ ap (λ (b : Bool). In 2 (tree_at row.DEVICE u) (name_tree r b)) (comma_starts r)) in
    let rest : after_phrase row.MOVED t ≡ name_rest r (first r == byte.comma) = moved_rest t true ok is ∙ s.2 ∙ ap (name_rest r) (comma_starts r) in
    let name : NameOrNone (first r == byte.comma) r (name_branch (tree_at row.MOVED t)) (after_phrase row.MOVED t) =
    alike (first r == byte.comma) r (name_tree r (first r == byte.comma)) (name_branch (tree_at row.MOVED t)) (name_rest r (first r == byte.comma)) (after_phrase row.MOVED t) (ap name_branch tree) rest (device_name u p) in
    record {
      device = ap device_from tree ∙ ap Some (address_is u (device_here u p)) ∙ sym (ap (λ (b : Bool). if b then Some (leaf_bytes leaf.Address (drop 1 u)) else None) is);
      name = subst (λ (x : Text). NameOrNone (first x == byte.comma) x (name_branch (tree_at row.MOVED t)) (after_phrase row.MOVED t)) (after_device u (device_here u p)) name;
    }

-- after `T`
abbrev t_tree : Text → Bool → Trees
t_tree u b = if b then In 1 (tree_at row.COMMA_AFTER_T_AND_ALPHA u) Done else In 0 Done Done

abbrev t_rest : Text → Bool → Text
t_rest u b = if b then after_phrase row.COMMA_AFTER_T_AND_ALPHA u else u

of_t : (t : Text) → is_phrase row.MOVED t ≡ true → (first (drop 1 t) == byte.slash) ≡ false → IsMoved (drop 1 t) t
of_t t ok is =
    let u = drop 1 t in
    let p = from_t t ok is in
    let s = stands_of row.MOVED_FROM_T t_items u t_row p in
    let same = alpha_starts u s.0 in
    let c = first u == byte.comma in
    let h : Begins c row.COMMA_AFTER_T_AND_ALPHA u = subst (λ (b : Bool). Begins b row.COMMA_AFTER_T_AND_ALPHA u) same s.0 in
    let tree : tree_at row.MOVED t ≡ Put (Coded byte.upper_t) (In 0 (t_tree u c) Done) = moved_tree t false ok is ∙ ap (λ (a : Trees). Put (Coded byte.upper_t) (In 0 a Done)) (s.1 ∙ ap (t_tree u) same) in
    let rest : after_phrase row.MOVED t ≡ t_rest u c = moved_rest t false ok is ∙ s.2 ∙ ap (t_rest u) same in
    record {
      device = ap device_from tree ∙ none_named c u ∙ sym (ap (λ (b : Bool). if b then Some (leaf_bytes leaf.Address (drop 1 u)) else None) is);
      name =
          alike c u (t_tree u c) (name_branch (tree_at row.MOVED t)) (t_rest u c) (after_phrase row.MOVED t) (ap name_branch tree ∙ same_branch c u) rest
          (or_none c row.COMMA_AFTER_T_AND_ALPHA u h (named_after_t u));
    }
  where
    none_named : (c : Bool) (u : Text) → device_from (Put (Coded byte.upper_t) (In 0 (t_tree u c) Done)) ≡ None
    none_named true u = refl
    none_named false u = refl

    same_branch : (c : Bool) (u : Text) → name_branch (Put (Coded byte.upper_t) (In 0 (t_tree u c) Done)) ≡ t_tree u c
    same_branch true u = refl
    same_branch false u = refl

-- so either way
by_slash : (b : Bool) (t : Text) → (first (drop 1 t) == byte.slash) ≡ b → is_phrase row.MOVED t ≡ true → IsMoved (if b then drop 3 (drop 1 (drop 1 t)) else drop 1 t) t
by_slash true t is ok = of_device t ok is
by_slash false t is ok = of_t t ok is

is_moved : (t : Text) → is_phrase row.MOVED t ≡ true → IsMoved (after_drive_from t) t
unfolding after_drive_from
is_moved t ok = by_slash (first (drop 1 t) == byte.slash) t refl ok

pub drive_is : (d : DrivesSeen) (t : Text) → is_phrase row.MOVED t ≡ true → drive_from d (tree_at row.MOVED t) ≡ platter_used d (platter_meant (device_at t) d.selected)
drive_is d t ok = ap (λ (o : Option (List ℕ)). platter_used d (platter_meant o d.selected)) (IsMoved.device (is_moved t ok))

pub name_here : (t : Text) → is_phrase row.MOVED t ≡ true → (first (after_drive_from t) == byte.comma) ≡ true → is_phrase row.ALPHA (drop 1 (after_drive_from t)) ≡ true
name_here t ok is = NameOrNone.part (IsMoved.name (is_moved t ok)) is

branch_is : (t : Text) (c : Bool) → is_phrase row.MOVED t ≡ true → (first (after_drive_from t) == byte.comma) ≡ c → name_branch (tree_at row.MOVED t) ≡ branch_at c (after_drive_from t)
branch_is t c ok is = NameOrNone.tree_is (IsMoved.name (is_moved t ok)) ∙ ap (λ (b : Bool). branch_at b (after_drive_from t)) is

pub file_is : (e : Context) (t : Text) → is_phrase row.MOVED t ≡ true → (first (after_drive_from t) == byte.comma) ≡ true
    → file_moved e (tree_at row.MOVED t) ≡ (name_given e (tree_at row.ALPHA (drop 1 (after_drive_from t))) >>= (λ x. Ok (Some x)))
file_is e t ok is = ap (file_in e) (branch_is t true ok is)

pub no_file : (e : Context) (t : Text) → is_phrase row.MOVED t ≡ true → (first (after_drive_from t) == byte.comma) ≡ false → file_moved e (tree_at row.MOVED t) ≡ Ok None
no_file e t ok is = ap (file_in e) (branch_is t false ok is)

rest_is : (t : Text) (c : Bool) → is_phrase row.MOVED t ≡ true → (first (after_drive_from t) == byte.comma) ≡ c → after_phrase row.MOVED t ≡ rest_at c (after_drive_from t)
rest_is t c ok is = NameOrNone.rest_is (IsMoved.name (is_moved t ok)) ∙ ap (λ (b : Bool). rest_at b (after_drive_from t)) is

pub after_file : (t : Text) → is_phrase row.MOVED t ≡ true → (first (after_drive_from t) == byte.comma) ≡ true → after_phrase row.MOVED t ≡ after_phrase row.ALPHA (drop 1 (after_drive_from t))
after_file t ok is = rest_is t true ok is

pub after_none : (t : Text) → is_phrase row.MOVED t ≡ true → (first (after_drive_from t) == byte.comma) ≡ false → after_phrase row.MOVED t ≡ after_drive_from t
after_none t ok is = rest_is t false ok is

-- MOVE: the drives F and R are left out of the language
abbrev move_items : List Item
move_items = Word word.MOVE ∷ Either (start.Two byte.upper_f byte.upper_r) row.LEFT_OUT row.MOVED ∷ Word word.TO ∷ Part row.DRIVE ∷ []

move_row : row_items row.MOVE ≡ move_items
unfolding row_items
move_row = refl

abbrev After : Text → Type 0
After u = (first u ≡ word.TO) × ((is_phrase row.DRIVE (drop 1 u) ≡ true) × Unit {0})

abbrev Kept : Bool → Text → Type 0
Kept b t = When b ((is_phrase row.LEFT_OUT t ≡ true) × After (after_phrase row.LEFT_OUT t)) ((is_phrase row.MOVED t ≡ true) × After (after_phrase row.MOVED t))

kept : (b : Bool) (t : Text) → Kept b t → (is_phrase row.MOVED t ≡ true) × After (after_phrase row.MOVED t)
kept true t h = not_left_out t h.0
kept false t h = h

second : (b : Bool) (t : Text) → Kept b t → b ≡ false
second true t h = not_left_out t h.0
second false t h = refl

stands : (t : Text) → is_phrase row.MOVE t ≡ true → Kept (starts Atoms (start.Two byte.upper_f byte.upper_r) (drop 1 t)) (drop 1 t)
stands t ok = (stands_of row.MOVE move_items t move_row ok).0.1

pub moved_here : (t : Text) → is_phrase row.MOVE t ≡ true → is_phrase row.MOVED (drop 1 t) ≡ true
moved_here t ok = (kept (starts Atoms (start.Two byte.upper_f byte.upper_r) (drop 1 t)) (drop 1 t) (stands t ok)).0

pub other_drive : (t : Text) → is_phrase row.MOVE t ≡ true → is_phrase row.DRIVE (drop 1 (after_phrase row.MOVED (drop 1 t))) ≡ true
other_drive t ok = (kept (starts Atoms (start.Two byte.upper_f byte.upper_r) (drop 1 t)) (drop 1 t) (stands t ok)).1.1.0

abbrev to_tree : Text → Trees
to_tree u = Put (Coded word.TO) (In 2 (tree_at row.DRIVE (drop 1 u)) Done)

abbrev move_tree : Text → Bool → Trees
move_tree t b = Put (Coded word.MOVE) (if b then In 1 (tree_at row.LEFT_OUT t) (to_tree (after_phrase row.LEFT_OUT t)) else In 0 (tree_at row.MOVED t) (to_tree (after_phrase row.MOVED t)))

pub move_is : (d : DrivesSeen) (e : Context) (t : Text) → is_phrase row.MOVE t ≡ true
    → asks_to_move d e (tree_at row.MOVE t)
    ≡ (drive_from d (tree_at row.MOVED (drop 1 t)) >>= (λ a. file_moved e (tree_at row.MOVED (drop 1 t)) >>= (λ name. drive_used d (tree_at row.DRIVE (drop 1 (after_phrase row.MOVED (drop 1 t)))) >>= (λ b. moves_apart a name b))))
move_is d e t ok =
    ap (asks_to_move d e)
    ((stands_of row.MOVE move_items t move_row ok).1 ∙ ap (move_tree (drop 1 t)) (second (starts Atoms (start.Two byte.upper_f byte.upper_r) (drop 1 t)) (drop 1 t) (stands t ok)))
