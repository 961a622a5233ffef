-- What is found in the bytes of lines is what is found on their trees.
use Rattle.std.proofs.Common.{◌≡◌, ℕ, zero, suc, ◌+◌, ◌||◌, ◌==◌, nat_lt, Bool, true, false, cond, if◌then◌else◌, List, [], ◌∷◌, drop, map, refl, ap, ◌∙◌, Some, None, slice_get, find, option_map}
use Rattle.std.proofs.lemmas.List.{drop-map}
use Rattle.std.proofs.lemmas.List.Elements.{All-head, All-tail}
use Rattle.std.specs.Option.{option_map_or}
use Rattle.std.specs.List.{All, position_from}
use Rattle.b2_base.specs.Lexical.{is_digit, is_letter}
use Rattle.b2_atom.specs.Words.{Text}
use Rattle.b2_atom.specs.Tree.{Trees, atoms}
use Rattle.b2_atom.specs.Lines.{LineUnit}
use Rattle.b2_atom.specs.Units.{TreeUnit, unit_atoms, units_on}
use Rattle.b2_atom.specs.Laws.{IsTree, IsReadAlone}
use Rattle.b2_atom.proofs.lines.EachUnit.{tree_is_cut}
use Rattle.b2_text.specs.Spots.{unit_of, is_mark, is_function, is_data, first_line, data_in, or_else}
use Rattle.b2_text.specs.Trees.{TreeLines, spelled_lines, is_mark_unit, is_function_unit, is_data_unit, opens, data_on}
use Rattle.b2_text.specs.Laws.{AreTrees, MarksAreFound, FunctionsAreFound, DataAreFound}
use Rattle.b2_text.specs.declared.spots.Spot.{Spot}
use Rattle.b2_text.proofs.Statements.{chosen_of, data_is, mark_is, function_is}

-- a test of bytes that tells of each unit what a test of its tree does
abbrev Tells : (Text → Bool) → (TreeUnit → Bool) → Type 0
Tells test on = (u : TreeUnit) → IsReadAlone u → test (atoms u.tree) ≡ on u

mark_tells : (n : ℕ) → Tells (is_mark n) (is_mark_unit n)
mark_tells n u h = mark_is n u.position (atoms u.tree) u.row u.tree (chosen_of u.position (atoms u.tree) u.row u.tree h)

function_tells : (name : ℕ) → (is_letter name || is_digit name) ≡ true → Tells (is_function name) (is_function_unit name)
function_tells name k u h = function_is name u.position (atoms u.tree) u.row u.tree k (chosen_of u.position (atoms u.tree) u.row u.tree h)

data_tells : Tells is_data is_data_unit
data_tells u h = data_is u.position (atoms u.tree) u.row u.tree (chosen_of u.position (atoms u.tree) u.row u.tree h)

-- the first unit of a line
opening_is : (test : Text → Bool) (on : TreeUnit → Bool) → Tells test on → test [] ≡ false → (vs : List TreeUnit) → All IsReadAlone vs
    → test (option_map_or (λ (u : LineUnit). u.bytes) (slice_get (map unit_atoms vs) 0) []) ≡ option_map_or on (slice_get vs 0) false
opening_is test on tells none [] h = none
opening_is test on tells none (v ∷ vs) h = tells v (All-head IsReadAlone v vs h)

line_opening : (test : Text → Bool) (on : TreeUnit → Bool) → Tells test on → test [] ≡ false → (t : Trees) → IsTree t → test (unit_of 0 (atoms t)) ≡ opens on t
line_opening test on tells none t h =
    let c = tree_is_cut t h in
    ap (λ (us : List LineUnit). test (option_map_or (λ (u : LineUnit). u.bytes) (slice_get us 0) [])) c.units ∙ opening_is test on tells none (units_on t) c.alone

-- the lowest line
first_is : (test : Text → Bool) (on : Trees → Bool) → ((t : Trees) → IsTree t → test (atoms t) ≡ on t) → (lines : TreeLines) → AreTrees lines
    → first_line test (spelled_lines lines) ≡ first_line on lines
first_is test on same [] h = refl
first_is test on same (l ∷ ls) h =
    by_test (test (atoms l.1)) (on l.1) (same l.1 (All-head (λ (k : ℕ × Trees). IsTree k.1) l ls h)) (first_is test on same ls (All-tail (λ (k : ℕ × Trees). IsTree k.1) l ls h)) where
      by_test : (b c : Bool) → b ≡ c → first_line test (spelled_lines ls) ≡ first_line on ls
          → option_map {U = Spot} (λ (k : ℕ × Text). record { line = k.0; unit = 0 }) (cond b (Some (l.0, atoms l.1)) (find (λ (k : ℕ × Text). test k.1) (spelled_lines ls)))
          ≡ option_map {U = Spot} (λ (k : ℕ × Trees). record { line = k.0; unit = 0 }) (cond c (Some l) (find (λ (k : ℕ × Trees). on k.1) ls))
      by_test true true is rest = refl
      by_test false false is rest = rest
      by_test true false is rest = cc
      by_test false true is rest = cc

pub marks_found : MarksAreFound
marks_found n lines h = first_is (λ (a : Text). is_mark n (unit_of 0 a)) (opens (is_mark_unit n)) (line_opening (is_mark n) (is_mark_unit n) (mark_tells n) refl) lines h

pub functions_found : FunctionsAreFound
functions_found name lines k h =
    first_is (λ (a : Text). is_function name (unit_of 0 a)) (opens (is_function_unit name)) (line_opening (is_function name) (is_function_unit name) (function_tells name k) refl) lines h

-- the first DATA of a line
All-drop : (n : ℕ) (vs : List TreeUnit) → All IsReadAlone vs → All IsReadAlone (drop n vs)
All-drop zero vs h = h
All-drop (suc n) [] h = h
All-drop (suc n) (v ∷ vs) h = All-drop n vs (All-tail IsReadAlone v vs h)

position_is : (i : ℕ) (vs : List TreeUnit) → All IsReadAlone vs → position_from (λ (u : LineUnit). is_data u.bytes) i (map unit_atoms vs) ≡ position_from is_data_unit i vs
position_is i [] h = refl
position_is i (v ∷ vs) h =
    (λ x. cond (data_tells v (All-head IsReadAlone v vs h) x) (Some i) (position_is (i + 1) vs (All-tail IsReadAlone v vs h) x))

data_line : (from : ℕ) (t : Trees) → IsTree t → data_in from (atoms t) ≡ data_on from t
data_line from t h =
    let c = tree_is_cut t h in
    ap (λ (us : List LineUnit). position_from (λ (u : LineUnit). is_data u.bytes) from (drop from us)) c.units
    ∙ ap (position_from (λ (u : LineUnit). is_data u.bytes) from) (drop-map unit_atoms from (units_on t))
    ∙ position_is from (drop from (units_on t)) (All-drop from (units_on t) c.alone)

pub data_found : DataAreFound
data_found from [] h = refl
data_found from (l ∷ ls) h =
    (λ x. or_else
    (if nat_lt l.0 from.line then None
    else option_map {U = Spot} (λ u. record { line = l.0; unit = u }) (data_line (if l.0 == from.line then from.unit else 0) l.1 (All-head (λ (k : ℕ × Trees). IsTree k.1) l ls h) x))
    (data_found from ls (All-tail (λ (k : ℕ × Trees). IsTree k.1) l ls h) x))
