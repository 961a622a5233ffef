-- READ takes the literals of DATA in their order: what is left of them at each place where it goes on.
use Rattle.std.proofs.Common.{◌≡◌, ◌<◌, ◌≤◌, ℕ, zero, suc, ◌+◌, ◌==◌, nat_lt, Bool, true, false, cond, if◌then◌else◌, List, [], ◌∷◌, ◌++◌, length, take, drop, map, Option, Some, None, option_map, Result, refl, sym, ap, subst, ◌∙◌, arith, nat_cmp, Less, is_eq, add-one}
use Rattle.std.specs.Prelude.{slice_get, min}
use Rattle.std.specs.Option.{option_and_then}
use Rattle.std.specs.List.{All, AllByRecursion, position_from}
use Rattle.std.specs.List.Sorted.{IsStrictlySortedBy}
use Rattle.std.specs.Map.{keys_of}
use Rattle.std.proofs.lemmas.Bool.{cond-true, cond-false, cond_both}
use Rattle.std.proofs.lemmas.Bool.Decides.{nat_tests}
use Rattle.std.proofs.lemmas.List.{append_assoc, drop-map}
use Rattle.std.proofs.lemmas.Option.{slice_get_within}
use Rattle.std.proofs.lemmas.List.Elements.{All-head, All-tail}
use Rattle.b2_base.specs.Byte as byte
use Rattle.b2_base.specs.Lexical.{first}
use Rattle.b2_dec.specs.declared.values.Value.{Value}
use Rattle.b2_atom.specs.Words.{Text}
use Rattle.b2_atom.specs.Lines.{LineUnit, is_line}
use Rattle.b2_atom.specs.Tree.{Trees, also, atoms}
use Rattle.b2_atom.specs.Tree.Trees.{Done}
use Rattle.b2_atom.specs.Laws.{IsReadAlone}
use Rattle.b2_atom.specs.Units.{TreeUnit, unit_atoms}
use Rattle.b2_atom.specs.Grammar.{row_items}
use Rattle.b2_atom.specs.declared.rows.TheConstants as row
use Rattle.b2_rows.specs.Following.{tree_units}
use Rattle.b2_rows.specs.Laws.{IsRow, IsRowOnTree}
use Rattle.b2_rows.specs.Rows.{after_phrase, is_list, is_phrase, list_at, tree_at}
use Rattle.b2_rows.specs.Takes.{takes_byte}
use Rattle.b2_rows.proofs.Lengths.{part_shorter}
use Rattle.b2_rows.proofs.LineTrees.{LineCut, line_cut}
use Rattle.b2_text.specs.Program.{Lines, line_at}
use Rattle.b2_text.specs.Spots.{data_from, data_in, is_data, or_else}
use Rattle.b2_text.specs.declared.spots.Spot.{Spot}
use Rattle.b2_text.proofs.Ranges.{at_it, itself}
use Rattle.b2_text.proofs.Statements.{chosen_of, data_is}
use Rattle.b2_access.specs.Placed.{statement_of, statement_on}
use Rattle.b2_rows.proofs.RowsRead.{part_short}
use Rattle.b2_rows.specs.CommaLists.{further_listed, commas}
use Rattle.b2_stmt_var.specs.Data.{data_at, datum_value, first_literal, literals_listed, literal_at, literals_at, literals_in, literals_of, next_literal, read_at, unit_after}
use Rattle.b2_stmt_var.specs.ReadingOrder.{AreLines, ReadsInOrder, text_literals, unit_literals, values_from, values_read}
use Rattle.b2_stmt_var.specs.declared.data.Literal.{Literal}
use Rattle.b2_rows.proofs.CommaLists.{items_of_other, no_items_left, other_shorter}
use Rattle.b2_access.proofs.Statements.{few}
use Rattle.b2_stmt_var.proofs.DataRows.{comma_row, data_first, data_is as listed_is, data_list, other_list}

-- a DATA has a literal, and at most 255
further_few : (n : ℕ) (t : Text) → length t ≤ n → is_list commas row.COMMA_DATUM t ≡ true → length (further_listed (also (list_at commas row.COMMA_DATUM t) Done)) ≤ length t
further_few n t bound ok = by_test n t (first t == byte.comma) bound ok refl
  where
    by_test : (n : ℕ) (t : Text) (b : Bool) → length t ≤ n → is_list commas row.COMMA_DATUM t ≡ true → (first t == byte.comma) ≡ b → length (further_listed (also (list_at commas row.COMMA_DATUM t) Done)) ≤ length t
    by_test n t false bound ok is =
        let e : length (further_listed (also (list_at commas row.COMMA_DATUM t) Done)) ≡ 0 = ap length (no_items_left row.COMMA_DATUM Done t is) in
        omega (arith, e)
    by_test zero t true bound ok is = let e = other_shorter row.DATUM t is in absurd (omega (arith, e, bound))
    by_test (suc n) t true bound ok is =
        let u : Text = after_phrase row.DATUM (drop 1 t) in
        let shorter = other_shorter row.DATUM t is in
        let more : length (further_listed (also (list_at commas row.COMMA_DATUM t) Done)) ≡ suc (length (further_listed (also (list_at commas row.COMMA_DATUM u) Done))) =
        ap length (items_of_other row.COMMA_DATUM row.DATUM _ Done t comma_row ok is) in
        let rest = by_test n u (first u == byte.comma) (omega (arith, shorter, bound)) (other_list t ok is) refl in
        omega (arith, shorter, more, rest)

datum_takes : takes_byte row.DATUM ≡ true
unfolding takes_byte row_items
datum_takes = refl

pub record IsSome (ts : List Trees) : Type 0 where
  pub head : Trees
  pub tail : List Trees
  pub is : ts ≡ head ∷ tail
  pub few : length ts ≤ 255

data_few : (t : Text) → is_phrase row.DATA t ≡ true → length (data_at (drop 1 t)) ≤ 255
data_few t ok =
    let u : Text = after_phrase row.DATUM (drop 1 t) in
    let short = part_short row.DATA t ok in
    let shorter = part_shorter row.DATUM (drop 1 t) datum_takes (data_first t ok) in
    let rest = further_few (length u) u (omega arith) (data_list t ok) in
    let dropped : length (drop 1 t) ≤ length t = no_longer t in
    let one : length (drop 1 t) < length t = goes_on t (omega (arith, shorter)) in
    omega (arith, short, shorter, rest, one)
  where
    no_longer : (s : Text) → length (drop 1 s) ≤ length s
    no_longer [] = omega arith
    no_longer (b ∷ s) = omega arith

    goes_on : (s : Text) → 0 < length (drop 1 s) → length (drop 1 s) < length s
    goes_on [] h = absurd (omega (arith, h))
    goes_on (b ∷ s) h = omega arith

-- the literals of a unit that is a row
equal : (a b : ℕ) → (a == b) ≡ true → a ≡ b
equal a b h = grind (arith, nat_tests)

some_of_data : (bytes : Text) (t : Trees) → is_phrase row.DATA bytes ≡ true → tree_at row.DATA bytes ≡ t → IsSome (literals_listed t)
some_of_data bytes t ok is =
    let same : literals_listed t ≡ data_at (drop 1 bytes) = sym (ap literals_listed is) ∙ listed_is bytes ok in
    record {
      head = tree_at row.DATUM (drop 1 bytes);
      tail = further_listed (also (list_at commas row.COMMA_DATUM (after_phrase row.DATUM (drop 1 bytes))) Done);
      is = same;
      few = subst (λ (ts : List Trees). length ts ≤ 255) (sym same) (data_few bytes ok);
    }

unit_some : (u : TreeUnit) → IsRowOnTree u → (u.row == row.DATA) ≡ true → IsSome (literals_of u.row u.tree)
unit_some u h is =
    let same = equal u.row row.DATA is in
    let some = some_of_data (atoms u.tree) u.tree (subst (λ (n : ℕ). is_phrase n (atoms u.tree) ≡ true) same (IsRow.part h)) (sym (ap (λ (n : ℕ). tree_at n (atoms u.tree)) same) ∙ IsRow.tree h) in
    subst IsSome (sym (ap (λ (b : Bool). if b then literals_listed u.tree else []) is)) some

-- the DATA among the units of a line
abbrev is_data_row : TreeUnit → Bool
is_data_row u = u.row == row.DATA

data_told : (u : TreeUnit) → IsReadAlone u → is_data (atoms u.tree) ≡ is_data_row u
data_told u h = data_is u.position (atoms u.tree) u.row u.tree (chosen_of u.position (atoms u.tree) u.row u.tree h)

position_is : (i : ℕ) (us : List TreeUnit) → All IsReadAlone us → position_from (λ (u : LineUnit). is_data u.bytes) i (map unit_atoms us) ≡ position_from is_data_row i us
position_is i [] h = refl
position_is i (u ∷ us) h = (λ x. cond (data_told u (All-head IsReadAlone u us h) x) (Some i) (position_is (i + 1) us (All-tail IsReadAlone u us h) x))

all_after : (P : TreeUnit → Type 0) (n : ℕ) (us : List TreeUnit) → All P us → All P (drop n us)
all_after P zero us h = h
all_after P (suc n) [] h = h
all_after P (suc n) (u ∷ us) h = all_after P n us (All-tail P u us h)

data_in_is : (from : ℕ) (line : List ℕ) → is_line line ≡ true → data_in from line ≡ position_from is_data_row from (drop from (tree_units line))
data_in_is from line h =
    let c = line_cut line h in
    ap (λ (us : List LineUnit). position_from (λ (u : LineUnit). is_data u.bytes) from (drop from us)) (LineCut.units c)
    ∙ ap (position_from (λ (u : LineUnit). is_data u.bytes) from) (drop-map unit_atoms from (tree_units line))
    ∙ position_is from (drop from (tree_units line)) (all_after IsReadAlone from (tree_units line) (LineCut.alone c))

unit_here : (us : List TreeUnit) (i : ℕ) (v : TreeUnit) (vs : List TreeUnit) → drop i us ≡ v ∷ vs → slice_get us i ≡ Some v
unit_here us zero v vs h = ap (λ (ws : List TreeUnit). slice_get ws 0) h
unit_here [] (suc i) v vs h = absurd (grind arith)
unit_here (u ∷ us) (suc i) v vs h = unit_here us i v vs h

units_after : (us : List TreeUnit) (i : ℕ) (v : TreeUnit) (vs : List TreeUnit) → drop i us ≡ v ∷ vs → drop (suc i) us ≡ vs
units_after us zero v vs h = ap (drop 1) h
units_after [] (suc i) v vs h = absurd (grind arith)
units_after (u ∷ us) (suc i) v vs h = units_after us i v vs h

-- what is found of them, and what is left
pub record Found (us : List TreeUnit) (left : List Trees) (k : ℕ) : Type 0 where
  pub unit : TreeUnit
  pub there : slice_get us k ≡ Some unit
  pub some : IsSome (literals_of unit.row unit.tree)
  pub left_is : left ≡ literals_of unit.row unit.tree ++ unit_literals (drop (suc k) us)

FoundBy : List TreeUnit → List Trees → Option ℕ → Type 0
FoundBy us left None = left ≡ []
FoundBy us left (Some k) = Found us left k

no_literals : (u : TreeUnit) → is_data_row u ≡ false → literals_of u.row u.tree ≡ []
no_literals u is = ap (λ (b : Bool). if b then literals_listed u.tree else []) is

found : (us : List TreeUnit) (i : ℕ) (vs : List TreeUnit) → All IsRowOnTree vs → drop i us ≡ vs → FoundBy us (unit_literals vs) (position_from is_data_row i vs)
unfolding FoundBy
found us i [] rows h = refl
found us i (v ∷ vs) rows h =
    cond_both (is_data_row v) (Some i) (position_from is_data_row (i + 1) vs) (FoundBy us (unit_literals (v ∷ vs)))
    (λ is. record {
      unit = v;
      there = unit_here us i v vs h;
      some = unit_some v (All-head IsRowOnTree v vs rows) is;
      left_is = ap (λ (ws : List TreeUnit). literals_of v.row v.tree ++ unit_literals ws) (sym (units_after us i v vs h));
    })
    (λ is. subst (λ (left : List Trees). FoundBy us left (position_from is_data_row (i + 1) vs)) (sym (ap (λ (ts : List Trees). ts ++ unit_literals vs) (no_literals v is)))
    (found us (i + 1) vs (All-tail IsRowOnTree v vs rows) (ap (λ (m : ℕ). drop m us) (add-one i) ∙ units_after us i v vs h)))

line_found : (from : ℕ) (line : List ℕ) → is_line line ≡ true → FoundBy (tree_units line) (unit_literals (drop from (tree_units line))) (data_in from line)
line_found from line h =
    subst (FoundBy (tree_units line) (unit_literals (drop from (tree_units line)))) (sym (data_in_is from line h))
    (found (tree_units line) from (drop from (tree_units line)) (all_after IsRowOnTree from (tree_units line) (LineCut.rows (line_cut line h))) refl)

-- the literals of a text from a spot on
abbrev start : Spot → ℕ × List ℕ → ℕ
start from l = if l.0 == from.line then from.unit else 0

abbrev line_left : Spot → ℕ × List ℕ → List Trees
line_left from l = if nat_lt l.0 from.line then [] else unit_literals (drop (start from l) (tree_units l.1))

abbrev left_from : Spot → Lines → List Trees
left_from from [] = []
left_from from (l ∷ ls) = line_left from l ++ left_from from ls

-- those of all lines, where each stands after the spot's
less_than : (a b : ℕ) → nat_cmp a b ≡ Less → a < b
less_than a b is = grind (arith, nat_tests)

not_below : (a b : ℕ) → b ≤ a → nat_lt a b ≡ false
not_below a b h = grind (arith, nat_tests)

is_below : (a b : ℕ) → a < b → nat_lt a b ≡ true
is_below a b h = grind (arith, nat_tests)

not_same : (a b : ℕ) → b < a → (a == b) ≡ false
not_same a b h = grind (arith, nat_tests)

is_same : (a : ℕ) → (a == a) ≡ true
is_same a = grind (arith, nat_tests)

line_by : (b c : Bool) (k : ℕ) (us : List TreeUnit) → b ≡ false → c ≡ false → (if b then [] else unit_literals (drop (if c then k else 0) us)) ≡ unit_literals us
line_by false false k us is_b is_c = refl
line_by true c k us is_b is_c = cc
line_by false true k us is_b is_c = cc

beyond : (from : Spot) (m : ℕ) (ls : Lines) → from.line ≤ m → AllByRecursion (λ n. nat_cmp m n ≡ Less) (keys_of ls) → left_from from ls ≡ text_literals ls
beyond from m [] bound h = refl
beyond from m (l ∷ ls) bound h =
    let over : from.line < l.0 = (let e = less_than m l.0 h.0 in omega (arith, e, bound)) in
    ap (λ (ts : List Trees). ts ++ left_from from ls)
    (line_by (nat_lt l.0 from.line) (l.0 == from.line) from.unit (tree_units l.1) (not_below l.0 from.line (omega (arith, over))) (not_same l.0 from.line over))
    ∙ ap (λ (ts : List Trees). unit_literals (tree_units l.1) ++ ts) (beyond from m ls bound h.1)

-- a text's first DATA from a spot on, and what is left after its literals
abbrev after : Spot → Spot
after spot = record spot { unit = suc spot.unit }

pub record FoundData (from : Spot) (lines : Lines) (spot : Spot) : Type 0 where
  pub line : List ℕ
  pub there : line_at spot.line lines ≡ Some line
  pub some : IsSome (literals_at lines spot)
  pub unit : spot.unit < 255
  pub left_is : left_from from lines ≡ literals_at lines spot ++ left_from (after spot) lines

DataBy : Spot → Lines → Option Spot → Type 0
DataBy from lines None = left_from from lines ≡ []
DataBy from lines (Some spot) = FoundData from lines spot

-- the number of a line is above each that is below all lines
above : (m n : ℕ) (a : List ℕ) (ls : Lines) → AllByRecursion (λ y. nat_cmp m y ≡ Less) (keys_of ls) → line_at n ls ≡ Some a → m < n
above m n a [] all h = absurd (grind arith)
above m n a (l ∷ ls) all h =
    cond_both (is_eq (nat_cmp n l.0)) (Some l.1) (line_at n ls) (λ (o : Option (List ℕ)). o ≡ Some a → m < n)
    (λ here _. let is = at_it n l.0 here in let e = less_than m l.0 all.0 in omega (arith, is, e))
    (λ _. above m n a ls all.1)
    h

other_number : (n m : ℕ) → m < n → is_eq (nat_cmp n m) ≡ false
other_number n m h = grind (arith, nat_tests)

both_parts : (a b c d : List Trees) → a ≡ b → c ≡ d → a ++ c ≡ b ++ d
both_parts a b c d h k = ap (λ (ts : List Trees). ts ++ c) h ∙ ap (λ (ts : List Trees). b ++ ts) k

-- where a line has none, it is that of the lines after it
later : (from : Spot) (l : ℕ × List ℕ) (ls : Lines) (o : Option Spot) → AllByRecursion (λ n. nat_cmp l.0 n ≡ Less) (keys_of ls) → line_left from l ≡ [] → DataBy from ls o → DataBy from (l ∷ ls) o
unfolding DataBy
later from l ls None ordered none h = both_parts (line_left from l) [] (left_from from ls) [] none h
later from l ls (Some spot) ordered none h =
    let under = above l.0 spot.line (FoundData.line h) ls ordered (FoundData.there h) in
    let same : line_at spot.line (l ∷ ls) ≡ line_at spot.line ls = cond-false (is_eq (nat_cmp spot.line l.0)) (Some l.1) (line_at spot.line ls) (other_number spot.line l.0 under) in
    let literals : literals_at (l ∷ ls) spot ≡ literals_at ls spot = ap (λ (line : Option (List ℕ)). literals_in (statement_on line spot.unit)) same in
    let passed : line_left (after spot) l ≡ [] = ap (λ (b : Bool). if b then [] else unit_literals (drop (start (after spot) l) (tree_units l.1))) (is_below l.0 spot.line under) in
    record {
      line = FoundData.line h;
      there = same ∙ FoundData.there h;
      some = subst IsSome (sym literals) (FoundData.some h);
      unit = FoundData.unit h;
      left_is = ap (λ (ts : List Trees). ts ++ left_from from ls) none ∙ FoundData.left_is h
          ∙ sym (both_parts (literals_at (l ∷ ls) spot) (literals_at ls spot) (left_from (after spot) (l ∷ ls)) (left_from (after spot) ls) literals (ap (λ (ts : List Trees). ts ++ left_from (after spot) ls) passed));
    }

-- where it has one
here : (from : Spot) (l : ℕ × List ℕ) (ls : Lines) (k : ℕ) → is_line l.1 ≡ true → AllByRecursion (λ n. nat_cmp l.0 n ≡ Less) (keys_of ls) → nat_lt l.0 from.line ≡ false
    → Found (tree_units l.1) (unit_literals (drop (start from l) (tree_units l.1))) k → FoundData from (l ∷ ls) (record { line = l.0; unit = k })
here from l ls k spelled ordered over f =
    let us = tree_units l.1 in
    let spot : Spot = record { line = l.0; unit = k } in
    let lits : List Trees = literals_of (Found.unit f).row (Found.unit f).tree in
    let there : line_at l.0 (l ∷ ls) ≡ Some l.1 = cond-true (is_eq (nat_cmp l.0 l.0)) (Some l.1) (line_at l.0 ls) (itself l.0 l.0 refl) in
    let literals : literals_at (l ∷ ls) spot ≡ lits =
    ap (λ (line : Option (List ℕ)). literals_in (statement_on line k)) there ∙ ap (λ (o : Option TreeUnit). literals_in (option_map statement_of o)) (Found.there f) in
    let left_here : line_left from l ≡ lits ++ unit_literals (drop (suc k) us) =
    ap (λ (b : Bool). if b then [] else unit_literals (drop (start from l) us)) over ∙ Found.left_is f in
    let left_after : line_left (after spot) l ≡ unit_literals (drop (suc k) us) =
    ap (λ (b : Bool). if b then [] else unit_literals (drop (start (after spot) l) us)) (not_below l.0 l.0 (omega arith)) ∙ ap (λ (b : Bool). unit_literals (drop (if b then suc k else 0) us)) (is_same l.0) in
    let others : left_from from ls ≡ left_from (after spot) ls =
    beyond from l.0 ls (at_least l.0 from.line over) ordered ∙ sym (beyond (after spot) l.0 ls (omega arith) ordered) in
    record {
      line = l.1;
      there = there;
      some = subst IsSome (sym literals) (Found.some f);
      unit = (let e = slice_get_within us k (Found.unit f) (Found.there f) in let g = few l.1 spelled in omega (arith, e, g));
      left_is = both_parts (line_left from l) (lits ++ unit_literals (drop (suc k) us)) (left_from from ls) (left_from (after spot) ls) left_here others
          ∙ append_assoc lits (unit_literals (drop (suc k) us)) (left_from (after spot) ls)
          ∙ sym (both_parts (literals_at (l ∷ ls) spot) lits (left_from (after spot) (l ∷ ls)) (unit_literals (drop (suc k) us) ++ left_from (after spot) ls) literals (ap (λ (ts : List Trees). ts ++ left_from (after spot) ls) left_after));
    }
  where
    at_least : (a b : ℕ) → nat_lt a b ≡ false → b ≤ a
    at_least a b is = grind (arith, nat_tests)

abbrev IsSpelled : ℕ × List ℕ → Type 0
IsSpelled l = is_line l.1 ≡ true

-- the first DATA of a line, or of those after it
by_unit : (from : Spot) (l : ℕ × List ℕ) (ls : Lines) (o : Option ℕ) → is_line l.1 ≡ true → AllByRecursion (λ n. nat_cmp l.0 n ≡ Less) (keys_of ls) → DataBy from ls (data_from from ls) → nat_lt l.0 from.line ≡ false
    → FoundBy (tree_units l.1) (unit_literals (drop (start from l) (tree_units l.1))) o
    → DataBy from (l ∷ ls) (or_else (option_map {U = Spot} (λ u. record { line = l.0; unit = u }) o) (data_from from ls))
unfolding FoundBy DataBy
by_unit from l ls None spelled ordered others over f =
    later from l ls (data_from from ls) ordered (ap (λ (b : Bool). if b then [] else unit_literals (drop (start from l) (tree_units l.1))) over ∙ f) others
by_unit from l ls (Some k) spelled ordered others over f = here from l ls k spelled ordered over f

by_number : (from : Spot) (l : ℕ × List ℕ) (ls : Lines) (b : Bool) → is_line l.1 ≡ true → AllByRecursion (λ n. nat_cmp l.0 n ≡ Less) (keys_of ls) → DataBy from ls (data_from from ls) → nat_lt l.0 from.line ≡ b
    → DataBy from (l ∷ ls) (or_else (if b then None else option_map {U = Spot} (λ u. record { line = l.0; unit = u }) (data_in (start from l) l.1)) (data_from from ls))
by_number from l ls true spelled ordered others under =
    later from l ls (data_from from ls) ordered (ap (λ (b : Bool). if b then [] else unit_literals (drop (start from l) (tree_units l.1))) under) others
by_number from l ls false spelled ordered others over = by_unit from l ls (data_in (start from l) l.1) spelled ordered others over (line_found (start from l) l.1 spelled)

data_left : (from : Spot) (lines : Lines) → IsStrictlySortedBy nat_cmp (keys_of lines) → All IsSpelled lines → DataBy from lines (data_from from lines)
unfolding DataBy IsStrictlySortedBy
data_left from [] ordered spelled = refl
data_left from (l ∷ ls) ordered spelled =
    by_number from l ls (nat_lt l.0 from.line) (All-head IsSpelled l ls spelled) ordered.0 (data_left from ls ordered.1 (All-tail IsSpelled l ls spelled)) refl

-- a place at which READ goes on, and what is left there
pub record Reached (lines : Lines) (p : Spot × ℕ) : Type 0 where
  pub unit : p.0.unit < 255
  pub few : length (literals_at lines p.0) ≤ 255

abbrev left_at : Lines → Spot × ℕ → List Trees
left_at lines p = drop p.1 (literals_at lines p.0) ++ left_from (after p.0) lines

-- a literal that is read is the first of those that were left
pub record Stepped (lines : Lines) (left : List Trees) (l : Literal) : Type 0 where
  pub datum : Trees
  pub value : l.value ≡ datum_value datum
  pub left_is : left ≡ datum ∷ left_at lines l.after
  pub reached : Reached lines l.after

StepBy : Lines → List Trees → Option Literal → Type 0
StepBy lines left None = left ≡ []
StepBy lines left (Some l) = Stepped lines left l

first_of_some : (lines : Lines) (from spot : Spot) → FoundData from lines spot → StepBy lines (left_from from lines) (literal_at lines spot 0)
unfolding StepBy
first_of_some lines from spot f =
    let some = FoundData.some f in
    let is : literal_at lines spot 0 ≡ Some (read_at spot 0 (IsSome.head some)) = ap (λ (ts : List Trees). option_map (read_at spot 0) (slice_get ts 0)) (IsSome.is some) in
    subst (StepBy lines (left_from from lines)) (sym is) (record {
      datum = IsSome.head some;
      value = refl;
      left_is = FoundData.left_is f ∙ first_left (literals_at lines spot) (IsSome.head some) (IsSome.tail some) (left_from (after spot) lines) (IsSome.is some);
      reached = record { unit = FoundData.unit f; few = IsSome.few some };
    })
  where
    first_left : (ts : List Trees) (t : Trees) (us more : List Trees) → ts ≡ t ∷ us → ts ++ more ≡ t ∷ (drop 1 ts ++ more)
    first_left [] t us more is = cc
    first_left (x ∷ xs) t us more is = ap (λ (y : Trees). y ∷ (xs ++ more)) (same_head x t xs us is)
      where
        same_head : (x t : Trees) (xs us : List Trees) → x ∷ xs ≡ t ∷ us → x ≡ t
        same_head x t xs us is = cc

first_step : (from : Spot) (lines : Lines) → AreLines lines → StepBy lines (left_from from lines) (first_literal lines from)
unfolding DataBy StepBy
first_step from lines ok = by_data (data_from from lines) (data_left from lines (AreLines.ordered ok) (AreLines.spelled ok))
  where
    by_data : (o : Option Spot) → DataBy from lines o → StepBy lines (left_from from lines) (option_and_then (λ (spot : Spot). literal_at lines spot 0) o)
    by_data None h = h
    by_data (Some spot) h = first_of_some lines from spot h

at_unit : Spot → ℕ → Spot
at_unit spot k = record spot { unit = k }

next_count : (k : ℕ) → k < 255 → min (k + 1) 255 ≡ suc k
next_count k h = grind arith

next_step : (lines : Lines) (p : Spot × ℕ) → AreLines lines → Reached lines p → StepBy lines (left_at lines p) (next_literal lines (Some p))
unfolding StepBy at_unit
next_step lines p ok reached = by_datum (slice_get (literals_at lines p.0) p.1) refl
  where
    lits : List Trees
    lits = literals_at lines p.0

    none_there : (ts : List Trees) (k : ℕ) → slice_get ts k ≡ None → drop k ts ≡ []
    none_there [] zero is = refl
    none_there [] (suc k) is = refl
    none_there (t ∷ ts) zero is = cc
    none_there (t ∷ ts) (suc k) is = none_there ts k is

    some_there : (ts : List Trees) (k : ℕ) (t : Trees) → slice_get ts k ≡ Some t → drop k ts ≡ t ∷ drop (suc k) ts
    some_there [] k t is = cc
    some_there (x ∷ xs) zero t is = ap (λ (y : Trees). y ∷ xs) (same x t is)
      where
        same : (x t : Trees) → Some x ≡ Some t → x ≡ t
        same x t is = cc
    some_there (x ∷ xs) (suc k) t is = some_there xs k t is

    next_unit : unit_after p.0 ≡ after p.0
    next_unit = ap (at_unit p.0) (next_count p.0.unit (Reached.unit reached))

    by_datum : (o : Option Trees) → slice_get (literals_at lines p.0) p.1 ≡ o → StepBy lines (left_at lines p) (or_else (option_map (read_at p.0 p.1) o) (first_literal lines (unit_after p.0)))
    by_datum None is =
        let same : left_at lines p ≡ left_from (unit_after p.0) lines =
        ap (λ (ts : List Trees). ts ++ left_from (after p.0) lines) (none_there (literals_at lines p.0) p.1 is) ∙ ap (λ (spot : Spot). left_from spot lines) (sym next_unit) in
        subst (λ (left : List Trees). StepBy lines left (first_literal lines (unit_after p.0))) (sym same) (first_step (unit_after p.0) lines ok)
    by_datum (Some t) is =
        let below : p.1 < 255 = (let e = slice_get_within (literals_at lines p.0) p.1 t is in let f = Reached.few reached in omega (arith, e, f)) in
        record {
          datum = t;
          value = refl;
          left_is = ap (λ (ts : List Trees). ts ++ left_from (after p.0) lines) (some_there (literals_at lines p.0) p.1 t is)
              ∙ ap (λ (k : ℕ). t ∷ (drop k (literals_at lines p.0) ++ left_from (after p.0) lines)) (sym (next_count p.1 below));
          reached = record { unit = Reached.unit reached; few = Reached.few reached };
        }

-- so the values are those of what is left
values_by : (lines : Lines) (n : ℕ) (left : List Trees) (o : Option Literal) → StepBy lines left o
    → ((p : Spot × ℕ) → Reached lines p → values_read lines n (Some p) ≡ take n (map datum_value (left_at lines p)))
    → values_from o (values_read lines n) ≡ take (suc n) (map datum_value left)
unfolding StepBy
values_by lines n left None h rest = sym (ap (λ (ts : List Trees). take (suc n) (map datum_value ts)) h)
values_by lines n left (Some l) h rest =
    ap (λ (x : Result Value ℕ). x ∷ values_read lines n (Some l.after)) (Stepped.value h)
    ∙ ap (λ (xs : List (Result Value ℕ)). datum_value (Stepped.datum h) ∷ xs) (rest l.after (Stepped.reached h))
    ∙ sym (ap (λ (ts : List Trees). take (suc n) (map datum_value ts)) (Stepped.left_is h))

values_left : (lines : Lines) (n : ℕ) → AreLines lines → (p : Spot × ℕ) → Reached lines p → values_read lines n (Some p) ≡ take n (map datum_value (left_at lines p))
values_left lines zero ok p reached = refl
values_left lines (suc n) ok p reached = values_by lines n (left_at lines p) (next_literal lines (Some p)) (next_step lines p ok reached) (values_left lines n ok)

-- all literals are left at the first spot
abbrev first_spot : Spot
first_spot = record { line = 0; unit = 0 }

all_left : (lines : Lines) → left_from first_spot lines ≡ text_literals lines
all_left [] = refl
all_left (l ∷ ls) =
    both_parts (line_left first_spot l) (unit_literals (tree_units l.1)) (left_from first_spot ls) (text_literals ls)
    (from_first (nat_lt l.0 0) (l.0 == 0) (not_below l.0 0 (omega arith))) (all_left ls)
  where
    from_first : (b c : Bool) → b ≡ false → (if b then [] else unit_literals (drop (if c then 0 else 0) (tree_units l.1))) ≡ unit_literals (tree_units l.1)
    from_first true c is = cc
    from_first false true is = refl
    from_first false false is = refl

pub reads_in_order : ReadsInOrder
reads_in_order lines zero ok = refl
reads_in_order lines (suc n) ok =
    values_by lines n (left_from first_spot lines) (first_literal lines first_spot) (first_step first_spot lines ok) (values_left lines n ok)
    ∙ ap (λ (ts : List Trees). take (suc n) (map datum_value ts)) (all_left lines)
