-- The units of a line are those of its tree, and what a unit begins with is told by its row.
use Rattle.std.proofs.Common.{◌≡◌, ◌≤◌, ℕ, zero, suc, ◌==◌, ◌&&◌, nat_lt, Bool, true, false, if◌then◌else◌, List, [], ◌∷◌, map, length, slice_get, Option, Some, None, refl, sym, ap, subst, ◌∙◌, arith, Result, Ok, Err, is_ok}
use Rattle.std.proofs.lemmas.Bool.Decides.{nat_tests}
use Rattle.std.proofs.lemmas.Option.{slice_get-map}
use Rattle.std.proofs.lemmas.List.{length-map}
use Rattle.std.specs.Option.{option_map}
use Rattle.std.specs.List.{All}
use Rattle.std.proofs.lemmas.List.Elements.{All-head, All-tail}
use Rattle.b2_base.specs.Lexical.{first}
use Rattle.b2_atom.specs.Words.{Text}
use Rattle.b2_atom.specs.Tree.{Trees, Outcome, atoms, under, names_global, calls_function, uses_in}
use Rattle.b2_atom.specs.Tree.Trees.{Done, In}
use Rattle.b2_atom.specs.Table.{forms}
use Rattle.b2_atom.specs.Grammar.{reader, statement, statement_within, statement_row, chosen, from, row_at, row_items, starts, parse_line}
use Rattle.b2_atom.specs.Lines.{is_line, LineUnit, units_of, further_unit, is_further, left_after, unit_row, unit_uses, uses_of, chosen_row, IsReadBy}
use Rattle.b2_atom.specs.Units.{TreeUnit, unit_atoms, units_on}
use Rattle.b2_atom.specs.Laws.{IsTree, IsReadAlone}
use Rattle.b2_atom.specs.declared.words.TheConstants as word
use Rattle.b2_atom.specs.declared.rows.TheConstants as row
use Rattle.b2_atom.specs.declared.words.Origin.TheVariants.{Atoms}
use Rattle.b2_atom.specs.declared.output.Stop.{Stop}
use Rattle.b2_atom.specs.declared.forms.Position.{Position}
use Rattle.b2_atom.specs.declared.forms.Position.TheVariants as position
use Rattle.b2_atom.specs.declared.forms.Item.TheVariants.{Word, Part, Either}
use Rattle.b2_atom.specs.declared.forms.Start.TheVariants as start
use Rattle.b2_atom.proofs.Booleans.{both, equal, never, or_false}
use Rattle.b2_atom.proofs.lines.EachUnit.{tree_is_cut}
use Rattle.b2_atom.proofs.lines.LineLaws.{spells_tree, atoms_back}
use Rattle.b2_rows.specs.Rows.{reading_row, tree_of, is_phrase, tree_at, after_phrase}
use Rattle.b2_rows.specs.Laws.{IsRow, IsRowOnTree}
use Rattle.b2_rows.specs.Following.{line_tree, tree_units, further_on}
use Rattle.b2_rows.proofs.Levels.{short_fits}
use Rattle.b2_rows.proofs.Standing.{row_stands}
use Rattle.b2_rows.proofs.Units.{each_tree_unit_is_its_row, line_short}

-- a line and its tree
pub record LineCut (line : Text) : Type 0 where
  pub units : units_of line ≡ map unit_atoms (tree_units line)
  pub alone : All IsReadAlone (tree_units line)
  pub rows : All IsRowOnTree (tree_units line)

cut_of : (line : Text) (t : Trees) → line_tree line ≡ t → units_of line ≡ map unit_atoms (units_on t) → All IsReadAlone (units_on t) → All IsRowOnTree (units_on t) → LineCut line
cut_of line t same units alone rows = record {
  units = units ∙ ap (λ (u : Trees). map unit_atoms (units_on u)) (sym same);
  alone = subst (λ (u : Trees). All IsReadAlone (units_on u)) (sym same) alone;
  rows = subst (λ (u : Trees). All IsRowOnTree (units_on u)) (sym same) rows;
}

tree_is : (line : Text) (t : Trees) → IsTree t → atoms t ≡ line → line_tree line ≡ t
unfolding line_tree
tree_is line t h same = ap (λ (s : Text). tree_of (parse_line Atoms s)) (sym same) ∙ ap tree_of (atoms_back t h)

pub line_cut : (line : Text) → is_line line ≡ true → LineCut line
line_cut line h =
    let s = spells_tree line h in
    let c = tree_is_cut s.tree s.is_tree in
    let short : length (atoms s.tree) ≤ 255 = (let e : length (atoms s.tree) ≡ length line = ap length s.spelled in let f = line_short line h in omega (arith, e, f)) in
    cut_of line s.tree (tree_is line s.tree s.is_tree s.spelled) (ap units_of (sym s.spelled) ∙ c.units) c.alone (each_tree_unit_is_its_row s.tree s.is_tree short)

-- the units as they are counted
further_same : (k i : ℕ) (us : List TreeUnit) → further_unit k i (map unit_atoms us) ≡ further_on k i us
further_same k i [] = refl
further_same k i (u ∷ us) = ap (λ (n : ℕ). if nat_lt k i && is_further u.position then i else n) (further_same k (suc i) us)

pub further_is : (line : Text) (k : ℕ) → is_line line ≡ true → further_unit k 0 (units_of line) ≡ further_on k 0 (tree_units line)
further_is line k h = ap (further_unit k 0) (line_cut line h).units ∙ further_same k 0 (tree_units line)

pub count_is : (line : Text) → is_line line ≡ true → length (units_of line) ≡ length (tree_units line)
count_is line h = ap length (line_cut line h).units ∙ length-map (tree_units line) unit_atoms

pub bytes_are : (line : Text) (k : ℕ) → is_line line ≡ true
    → option_map (λ (u : LineUnit). u.bytes) (slice_get (units_of line) k) ≡ option_map (λ (u : TreeUnit). atoms u.tree) (slice_get (tree_units line) k)
bytes_are line k h =
    ap (λ (us : List LineUnit). option_map (λ (u : LineUnit). u.bytes) (slice_get us k)) (line_cut line h).units
    ∙ ap (option_map (λ (u : LineUnit). u.bytes)) (slice_get-map unit_atoms (tree_units line) k)
    ∙ twice (slice_get (tree_units line) k)
  where
    twice : (o : Option TreeUnit) → option_map (λ (u : LineUnit). u.bytes) (option_map unit_atoms o) ≡ option_map (λ (u : TreeUnit). atoms u.tree) o
    twice None = refl
    twice (Some u) = refl

all_at : (P : TreeUnit → Type 0) (us : List TreeUnit) (k : ℕ) (u : TreeUnit) → All P us → slice_get us k ≡ Some u → P u
all_at P [] k u h is = cc
all_at P (v ∷ vs) zero u h is = subst P (same v u is) (All-head P v vs h)
  where
    same : (a b : TreeUnit) → Some a ≡ Some b → a ≡ b
    same a b e = cc
all_at P (v ∷ vs) (suc k) u h is = all_at P vs k u (All-tail P v vs h) is

-- a unit of the line is one of the tree
pub record UnitFound (line : Text) (k : ℕ) (bytes : Text) : Type 0 where
  pub unit : TreeUnit
  pub is : slice_get (tree_units line) k ≡ Some unit
  pub same : atoms unit.tree ≡ bytes
  pub alone : IsReadAlone unit
  pub row : IsRowOnTree unit

found_by : (line : Text) (k : ℕ) (bytes : Text) (o : Option TreeUnit) → slice_get (tree_units line) k ≡ o → All IsReadAlone (tree_units line) → All IsRowOnTree (tree_units line)
    → option_map (λ (u : TreeUnit). atoms u.tree) o ≡ Some bytes → UnitFound line k bytes
found_by line k bytes None is alone rows h = cc
found_by line k bytes (Some u) is alone rows h = record {
  unit = u;
  is = is;
  same = text_of (atoms u.tree) bytes h;
  alone = all_at IsReadAlone (tree_units line) k u alone is;
  row = all_at IsRowOnTree (tree_units line) k u rows is;
}
  where
    text_of : (a b : Text) → Some a ≡ Some b → a ≡ b
    text_of a b e = cc

pub unit_found : (line : Text) (k : ℕ) (bytes : Text) → is_line line ≡ true → option_map (λ (u : LineUnit). u.bytes) (slice_get (units_of line) k) ≡ Some bytes → UnitFound line k bytes
unit_found line k bytes h is =
    let c = line_cut line h in
    found_by line k bytes (slice_get (tree_units line) k) refl c.alone c.rows (sym (bytes_are line k h) ∙ is)

pub none_found : (line : Text) (k : ℕ) → is_line line ≡ true → option_map (λ (u : LineUnit). u.bytes) (slice_get (units_of line) k) ≡ None → slice_get (tree_units line) k ≡ None
none_found line k h is = by_unit (slice_get (tree_units line) k) (sym (bytes_are line k h) ∙ is)
  where
    by_unit : (o : Option TreeUnit) → option_map (λ (u : TreeUnit). atoms u.tree) o ≡ None → o ≡ None
    by_unit None e = refl
    by_unit (Some u) e = cc

-- the row of a statement is chosen by its first byte
same_branch : (m n : ℕ) (a b : Trees) → In m a Done ≡ In n b Done → m ≡ n
same_branch m n a b e = cc

same_row : (m n : ℕ) (t : Trees) (o : Outcome) → under m o ≡ Ok (In n t Done, []) → m ≡ n
same_row m n t (Err e) k = cc
same_row m n t (Ok x) k = same_branch m n x.0 t (ap tree_of k)

row_chosen : (p : Position) (s : Text) (n : ℕ) (t : Trees) (r : Result ℕ Stop) (q : ℕ → Text → Outcome) → chosen (from s r) q ≡ Ok (In n t Done, []) → r ≡ Ok n
row_chosen p s n t (Err e) q h = cc
row_chosen p s n t (Ok m) q h = let e = same_row m n t (q m s) h in (λ i. Ok (e i))

pub row_of_unit : (u : TreeUnit) → IsReadAlone u → row_at forms Atoms u.position (atoms u.tree) ≡ Ok u.row
unfolding statement_within statement_row
row_of_unit u h = row_chosen u.position (atoms u.tree) u.row u.tree (row_at forms Atoms u.position (atoms u.tree)) _ h

else_row : (p : Position) (s : Text) (m : ℕ) → row_at forms Atoms p (word.ELSE ∷ s) ≡ Ok m → m ≡ row.ELSE
unfolding starts
else_row position.First s m h = cc
else_row position.Further s m h = cc
else_row position.Following s m h = cc

error_row : (p : Position) (s : Text) (m : ℕ) → row_at forms Atoms p (word.ERROR ∷ s) ≡ Ok m → m ≡ row.ERROR
unfolding starts
error_row position.First s m h = cc
error_row position.Further s m h = cc
error_row position.Following s m h = cc

pub else_items : row_items row.ELSE ≡ Word word.ELSE ∷ Either start.Line row.LINE_NUMBER row.FOLLOWING ∷ []
unfolding row_items
else_items = refl

error_items : row_items row.ERROR ≡ Word word.ERROR ∷ Part row.FOLLOWING ∷ []
unfolding row_items
error_items = refl

pub else_first : (t : Text) → is_phrase row.ELSE t ≡ true → first t ≡ word.ELSE
else_first t ok = (row_stands row.ELSE (Word word.ELSE ∷ Either start.Line row.LINE_NUMBER row.FOLLOWING ∷ []) t else_items ok).stands.0

pub error_first : (t : Text) → is_phrase row.ERROR t ≡ true → first t ≡ word.ERROR
error_first t ok = (row_stands row.ERROR (Word word.ERROR ∷ Part row.FOLLOWING ∷ []) t error_items ok).stands.0

same_number : (m n : ℕ) → m ≡ n → (m == n) ≡ true
same_number m n h = grind (arith, nat_tests)

-- a test of the first byte is one of the row
abbrev RowOf : ℕ → ℕ → Type 0
RowOf c n = (p : Position) (s : Text) (m : ℕ) → row_at forms Atoms p (c ∷ s) ≡ Ok m → m ≡ n

byte_by : (c n : ℕ) (p : Position) (s : Text) (m : ℕ) (x y : Bool) → (first s == c) ≡ x → (m == n) ≡ y → (nat_lt 0 c) ≡ true → RowOf c n → row_at forms Atoms p s ≡ Ok m
    → (m ≡ n → first s ≡ c) → x ≡ y
byte_by c n p s m true true is is_row some f h g = refl
byte_by c n p s m false false is is_row some f h g = refl
byte_by c n p s m false true is is_row some f h g = absurd (never (first s == c) (same_number (first s) c (g (equal m n is_row))) is)
byte_by c n p [] m true false is is_row some f h g = absurd (zero_no c is some)
  where
    zero_no : (d : ℕ) → (0 == d) ≡ true → nat_lt 0 d ≡ true → ⊥
    zero_no d e k = grind (arith, nat_tests)
byte_by c n p (b ∷ s) m true false is is_row some f h g =
    let P : ℕ → Type 0 = λ (d : ℕ). row_at forms Atoms p (d ∷ s) ≡ Ok m in
    absurd (never (m == n) (same_number m n (f p s m (subst P (equal b c is) h))) is_row)

unit_part : (u : TreeUnit) (n : ℕ) → IsRowOnTree u → u.row ≡ n → is_phrase n (atoms u.tree) ≡ true
unit_part u n h same = subst (λ (m : ℕ). is_phrase m (atoms u.tree) ≡ true) same h.part

pub else_told : (u : TreeUnit) → IsReadAlone u → IsRowOnTree u → (first (atoms u.tree) == word.ELSE) ≡ (u.row == row.ELSE)
else_told u h k = byte_by word.ELSE row.ELSE u.position (atoms u.tree) u.row _ _ refl refl refl else_row (row_of_unit u h) (λ same. else_first (atoms u.tree) (unit_part u row.ELSE k same))

pub error_told : (u : TreeUnit) → IsReadAlone u → IsRowOnTree u → (first (atoms u.tree) == word.ERROR) ≡ (u.row == row.ERROR)
error_told u h k = byte_by word.ERROR row.ERROR u.position (atoms u.tree) u.row _ _ refl refl refl error_row (row_of_unit u h) (λ same. error_first (atoms u.tree) (unit_part u row.ERROR k same))

-- a unit with its row
pub unit_is_row : (n : ℕ) (bytes : Text) → length bytes ≤ 255 → IsReadBy n bytes → IsRow n bytes (tree_at n bytes)
unfolding is_phrase tree_at after_phrase reading_row
unit_is_row n bytes short h = record {
  part = both _ _ (short_fits bytes (let e : length bytes ≤ 256 = omega (arith, short) in e)) (ap is_ok h.read);
  tree = refl;
  whole = ap left_after h.read;
}

chosen_is : (v : TreeUnit) → IsReadAlone v → unit_row (unit_atoms v) ≡ v.row
unfolding unit_row statement_row
chosen_is v h = ap (λ (r : Result ℕ Stop). chosen_row (from (atoms v.tree) r)) (row_of_unit v h)

rows_by : (o : Option TreeUnit) → ((v : TreeUnit) → o ≡ Some v → IsReadAlone v) → option_map unit_row (option_map unit_atoms o) ≡ option_map (λ (v : TreeUnit). v.row) o
rows_by None h = refl
rows_by (Some v) h = ap Some (chosen_is v (h v refl))

pub row_is : (line : Text) (k : ℕ) → is_line line ≡ true → option_map unit_row (slice_get (units_of line) k) ≡ option_map (λ (v : TreeUnit). v.row) (slice_get (tree_units line) k)
row_is line k h =
    let c = line_cut line h in
    ap (λ (us : List LineUnit). option_map unit_row (slice_get us k)) c.units
    ∙ ap (option_map unit_row) (slice_get-map unit_atoms (tree_units line) k)
    ∙ rows_by (slice_get (tree_units line) k) (λ v is. all_at IsReadAlone (tree_units line) k v c.alone is)

-- what a unit uses is what stands in its tree
uses_within : (n : ℕ) (t : Trees) (o : Outcome) → o ≡ Ok (In n t Done, []) → uses_of o ≡ uses_in t
uses_within n t o is = ap uses_of is ∙ (λ i. record { globals = or_false (names_global t) i; functions = or_false (calls_function t) i })

unit_use_is : (v : TreeUnit) → IsReadAlone v → unit_uses (unit_atoms v) ≡ uses_in v.tree
unfolding unit_uses
unit_use_is v h = uses_within v.row v.tree (statement (reader Atoms) 1 v.position (atoms v.tree)) h

uses_by : (o : Option TreeUnit) → ((v : TreeUnit) → o ≡ Some v → IsReadAlone v) → option_map unit_uses (option_map unit_atoms o) ≡ option_map (λ (v : TreeUnit). uses_in v.tree) o
uses_by None h = refl
uses_by (Some v) h = ap Some (unit_use_is v (h v refl))

pub uses_are : (line : Text) (k : ℕ) → is_line line ≡ true → option_map unit_uses (slice_get (units_of line) k) ≡ option_map (λ (v : TreeUnit). uses_in v.tree) (slice_get (tree_units line) k)
uses_are line k h =
    let c = line_cut line h in
    ap (λ (us : List LineUnit). option_map unit_uses (slice_get us k)) c.units
    ∙ ap (option_map unit_uses) (slice_get-map unit_atoms (tree_units line) k)
    ∙ uses_by (slice_get (tree_units line) k) (λ v is. all_at IsReadAlone (tree_units line) k v c.alone is)

same_some : (a b : ℕ) → Some a ≡ Some b → a ≡ b
same_some a b e = cc

pub tree_of_unit : (line : Text) (k n : ℕ) (bytes : Text) → is_line line ≡ true → Some n ≡ option_map unit_row (slice_get (units_of line) k)
    → Some bytes ≡ option_map (λ (u : LineUnit). u.bytes) (slice_get (units_of line) k) → Some (tree_at n bytes) ≡ option_map (λ (v : TreeUnit). v.tree) (slice_get (tree_units line) k)
tree_of_unit line k n bytes h is_n is_bytes =
    let f = unit_found line k bytes h (sym is_bytes) in
    let same : n ≡ f.unit.row = same_some n f.unit.row (is_n ∙ row_is line k h ∙ ap (option_map (λ (v : TreeUnit). v.row)) f.is) in
    ap Some (ap (λ (m : ℕ). tree_at m bytes) same ∙ ap (tree_at f.unit.row) (sym f.same) ∙ f.row.tree) ∙ sym (ap (option_map (λ (v : TreeUnit). v.tree)) f.is)
