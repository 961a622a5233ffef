-- What is found in the lines that are listed is what is found in all.
use Rattle.std.proofs.Common.{◌≡◌, ℕ, zero, suc, ◌+◌, ◌<◌, ◌≤◌, ◌==◌, ◌&&◌, ◌||◌, nat_lt, Bool, true, false, cond, List, [], ◌∷◌, length, drop, get_or, refl, sym, ap, ◌∙◌, arith, nat_cmp, Less, is_eq, Option, Some, None, is_some, find, option_map, if◌then◌else◌}
use Rattle.std.specs.List.{AllByRecursion, position_from}
use Rattle.std.specs.List.Sorted.{IsStrictlySortedBy}
use Rattle.std.specs.Map.{keys_of}
use Rattle.std.proofs.lemmas.Bool.{cond-true, cond-false}
use Rattle.std.proofs.lemmas.List.{drop_all, drop_more, get_or-map, get_or_default, length-map}
use Rattle.b2_atom.specs.Lines.{LineUnit, units_of}
use Rattle.b2_atom.specs.declared.words.TheConstants.{DEFFN, DEFFN_PRIME}
use Rattle.b2_text.specs.Program.{Lines, line_at}
use Rattle.b2_text.specs.Spots.{data_from, data_in, data_of, first_opening, is_data, is_function, is_mark, or_else, unit_of}
use Rattle.b2_text.specs.Blocks.{holds_data, is_opener, is_opening}
use Rattle.b2_text.specs.Members.{IsRankOf, lines_where, numbers_where}
use Rattle.b2_text.specs.declared.spots.Spot.{Spot}
use Rattle.b2_text.proofs.FoundInLines.{above, other}
use Rattle.b2_text.proofs.Ranges.{itself}
use Rattle.b2_text.proofs.Ranked.{is_less, shorter}

abbrev pub no_line : ℕ × List ℕ
no_line = (0, [])

-- the first unit of a line
abbrev pub spot_of : ℕ → Spot
spot_of n = record { line = n; unit = 0 }

-- a listed line is the one of its number
passed : (m : ℕ) (a : List ℕ) (l : ℕ × List ℕ) (ls : Lines) → AllByRecursion (λ y. nat_cmp l.0 y ≡ Less) (keys_of ls) → line_at m ls ≡ Some a → line_at m (l ∷ ls) ≡ Some a
passed m a l ls all is = cond-false (is_eq (nat_cmp m l.0)) (Some l.1) (line_at m ls) (other m l.0 (above l.0 m a ls all is)) ∙ is

line_by : (b : Bool) (l : ℕ × List ℕ) (ls fs : Lines) → AllByRecursion (λ y. nat_cmp l.0 y ≡ Less) (keys_of ls)
    → ((j : ℕ) → j < length fs → line_at (get_or (keys_of fs) j 0) ls ≡ Some (get_or fs j no_line).1) → (i : ℕ) → i < length (cond b (l ∷ fs) fs)
    → line_at (get_or (keys_of (cond b (l ∷ fs) fs)) i 0) (l ∷ ls) ≡ Some (get_or (cond b (l ∷ fs) fs) i no_line).1
line_by true l ls fs all rest zero h = cond-true (is_eq (nat_cmp l.0 l.0)) (Some l.1) (line_at l.0 ls) (itself l.0 l.0 refl)
line_by true l ls fs all rest (suc i) h = passed (get_or (keys_of fs) i 0) (get_or fs i no_line).1 l ls all (rest i (omega arith))
line_by false l ls fs all rest i h = passed (get_or (keys_of fs) i 0) (get_or fs i no_line).1 l ls all (rest i h)

line_listed : (test : List ℕ → Bool) (ls : Lines) → IsStrictlySortedBy nat_cmp (keys_of ls) → (i : ℕ) → i < length (lines_where test ls)
    → line_at (get_or (numbers_where test ls) i 0) ls ≡ Some (get_or (lines_where test ls) i no_line).1
unfolding IsStrictlySortedBy
line_listed test [] ordered i h = absurd (omega arith)
line_listed test (l ∷ ls) ordered i h = line_by (test l.1) l ls (lines_where test ls) ordered.0 (line_listed test ls ordered.1) i h

-- a number of a list, and the line that is listed there
pub record IsListedAt (test : List ℕ → Bool) (ls : Lines) (i n : ℕ) : Type 0 where
  pub within : i < length (lines_where test ls)
  pub number : n ≡ (get_or (lines_where test ls) i no_line).0
  pub line : line_at n ls ≡ Some (get_or (lines_where test ls) i no_line).1

pub listed_at : (test : List ℕ → Bool) (ls : Lines) (ns : List ℕ) (i n : ℕ) → IsStrictlySortedBy nat_cmp (keys_of ls) → ns ≡ numbers_where test ls → i < length ns → n ≡ get_or ns i n
    → IsListedAt test ls i n
listed_at test ls ns i n ordered listed h is =
    let count = ap (λ (ms : List ℕ). length ms) listed in
    let same = length-map (lines_where test ls) (λ (l : ℕ × List ℕ). l.0) in
    let inside : i < length (lines_where test ls) = omega (arith, count, same, h) in
    let key = is ∙ get_or_default ns i n 0 h ∙ ap (λ (ms : List ℕ). get_or ms i 0) listed in
    record {
      within = inside;
      number = key ∙ get_or-map (λ (l : ℕ × List ℕ). l.0) (lines_where test ls) i no_line 0 inside;
      line = ap (λ (m : ℕ). line_at m ls) key ∙ line_listed test ls ordered i inside;
    }

pub listed_all : (test : List ℕ → Bool) (ls : Lines) (ns : List ℕ) (i : ℕ) → ns ≡ numbers_where test ls → length ns ≤ i → length (lines_where test ls) ≤ i
listed_all test ls ns i listed h =
    let count = ap (λ (ms : List ℕ). length ms) listed in
    let same = length-map (lines_where test ls) (λ (l : ℕ × List ℕ). l.0) in
    omega (arith, count, same, h)

-- a line that begins with what is looked for
abbrev as_spot : Option (ℕ × List ℕ) → Option Spot
as_spot o = option_map (λ (l : ℕ × List ℕ). record { line = l.0; unit = 0 }) o

abbrev opened : (List ℕ → Bool) → Lines → Option (ℕ × List ℕ)
opened test ls = find (λ (l : ℕ × List ℕ). test (unit_of 0 l.1)) ls

either : (c : Bool) (l : ℕ × List ℕ) (o p : Option (ℕ × List ℕ)) → as_spot o ≡ as_spot p → as_spot (cond c (Some l) o) ≡ as_spot (cond c (Some l) p)
either true l o p h = refl
either false l o p h = h

opening_by : (test : List ℕ → Bool) (b c : Bool) (l : ℕ × List ℕ) (ls fs : Lines) → test (unit_of 0 l.1) ≡ c → (c ≡ true → b ≡ true)
    → first_opening test fs ≡ first_opening test ls → first_opening test (cond b (l ∷ fs) fs) ≡ first_opening test (l ∷ ls)
opening_by test true c l ls fs is within rest = either (test (unit_of 0 l.1)) l (opened test fs) (opened test ls) rest
opening_by test false true l ls fs is within rest = let wrong = within refl in cc
opening_by test false false l ls fs is within rest = rest ∙ sym (ap as_spot (cond-false (test (unit_of 0 l.1)) (Some l) (opened test ls) is))

pub opening_listed : (test where_ : List ℕ → Bool) → ((a : List ℕ) → test (unit_of 0 a) ≡ true → where_ a ≡ true) → (ls : Lines)
    → first_opening test (lines_where where_ ls) ≡ first_opening test ls
opening_listed test where_ within [] = refl
opening_listed test where_ within (l ∷ ls) =
    opening_by test (where_ l.1) (test (unit_of 0 l.1)) l ls (lines_where where_ ls) refl (within l.1) (opening_listed test where_ within ls)

pub opening_here : (test : List ℕ → Bool) (ls : Lines) (i : ℕ) (spot : Spot) (found : Option Spot) → i < length ls → test (unit_of 0 (get_or ls i no_line).1) ≡ true
    → spot ≡ spot_of (get_or ls i no_line).0 → first_opening test (drop i ls) ≡ found → Some spot ≡ found
opening_here test ls i spot found h is at rest =
    let l = get_or ls i no_line in
    ap Some at
    ∙ sym (ap as_spot (cond-true (test (unit_of 0 l.1)) (Some l) (opened test (drop (i + 1) ls)) is))
    ∙ sym (ap (first_opening test) (drop_more ls i no_line h))
    ∙ rest

pub opening_passed : (test : List ℕ → Bool) (ls : Lines) (i : ℕ) (found : Option Spot) → i < length ls → test (unit_of 0 (get_or ls i no_line).1) ≡ false
    → first_opening test (drop i ls) ≡ found → first_opening test (drop (i + 1) ls) ≡ found
opening_passed test ls i found h is rest =
    let l = get_or ls i no_line in
    sym (ap as_spot (cond-false (test (unit_of 0 l.1)) (Some l) (opened test (drop (i + 1) ls)) is))
    ∙ sym (ap (first_opening test) (drop_more ls i no_line h))
    ∙ rest

pub opening_none : (test : List ℕ → Bool) (ls : Lines) (i : ℕ) (found : Option Spot) → length ls ≤ i → first_opening test (drop i ls) ≡ found → None ≡ found
opening_none test ls i found h rest = sym (ap (first_opening test) (drop_all i ls h)) ∙ rest

-- what is looked for begins with DEFFN or DEFFN'
left : (a b c : Bool) → (a && b) ≡ true → (a || c) ≡ true
left true b c h = refl
left false b c h = cc

right : (a b c : Bool) → (a && b) ≡ true → (c || a) ≡ true
right true b true h = refl
right true b false h = refl
right false b c h = cc

pub mark_opens : (n : ℕ) (a : List ℕ) → is_mark n (unit_of 0 a) ≡ true → is_opening a ≡ true
mark_opens n a h = by_unit (unit_of 0 a) h where
  by_unit : (u : List ℕ) → is_mark n u ≡ true → is_opener u ≡ true
  by_unit [] h = cc
  by_unit (b ∷ u) h = right (b == DEFFN_PRIME) _ (b == DEFFN) h

pub function_opens : (name : ℕ) (a : List ℕ) → is_function name (unit_of 0 a) ≡ true → is_opening a ≡ true
function_opens name a h = by_unit (unit_of 0 a) h where
  by_unit : (u : List ℕ) → is_function name u ≡ true → is_opener u ≡ true
  by_unit [] h = cc
  by_unit (b ∷ []) h = cc
  by_unit (b ∷ c ∷ []) h = cc
  by_unit (b ∷ c ∷ d ∷ u) h = left (b == DEFFN) _ (b == DEFFN_PRIME) h

-- a line without a DATA has none from a unit on
abbrev data_unit : LineUnit → Bool
data_unit u = is_data u.bytes

later_by : (b : Bool) (i j : ℕ) (rest found : Option ℕ) → (is_some rest ≡ false → found ≡ None) → is_some (cond b (Some i) rest) ≡ false → cond b (Some j) found ≡ None
later_by true i j rest found later h = cc
later_by false i j rest found later h = later h

after_by : (b : Bool) (i : ℕ) (rest : Option ℕ) (P : Type 0) → (is_some rest ≡ false → P) → is_some (cond b (Some i) rest) ≡ false → P
after_by true i rest P later h = cc
after_by false i rest P later h = later h

data_later : (us : List LineUnit) (k i j : ℕ) → is_some (position_from data_unit i us) ≡ false → position_from data_unit j (drop k us) ≡ None
data_later [] zero i j h = refl
data_later [] (suc k) i j h = refl
data_later (u ∷ us) zero i j h =
    later_by (data_unit u) i j (position_from data_unit (i + 1) us) (position_from data_unit (j + 1) us) (data_later us zero (i + 1) (j + 1)) h
data_later (u ∷ us) (suc k) i j h =
    after_by (data_unit u) i (position_from data_unit (i + 1) us) (position_from data_unit j (drop k us) ≡ None) (data_later us k (i + 1) j) h

nothing : (b : Bool) (n : ℕ) (o : Option ℕ) → o ≡ None → (if b then None else option_map {U = Spot} (λ u. record { line = n; unit = u }) o) ≡ None
nothing true n o h = refl
nothing false n o h = ap (λ (p : Option ℕ). option_map {U = Spot} (λ u. record { line = n; unit = u }) p) h

no_data : (from : Spot) (l : ℕ × List ℕ) → holds_data l.1 ≡ false → data_of from l ≡ None
no_data from l h =
    let k = if l.0 == from.line then from.unit else 0 in
    nothing (nat_lt l.0 from.line) l.0 (data_in k l.1) (data_later (units_of l.1) k 0 k h)

data_by : (from : Spot) (b : Bool) (l : ℕ × List ℕ) (ls fs : Lines) → holds_data l.1 ≡ b → data_from from fs ≡ data_from from ls
    → data_from from (cond b (l ∷ fs) fs) ≡ data_from from (l ∷ ls)
data_by from true l ls fs is rest = ap (or_else (data_of from l)) rest
data_by from false l ls fs is rest = rest ∙ sym (ap (λ (o : Option Spot). or_else o (data_from from ls)) (no_data from l is))

pub data_listed : (from : Spot) (ls : Lines) → data_from from (lines_where holds_data ls) ≡ data_from from ls
data_listed from [] = refl
data_listed from (l ∷ ls) = data_by from (holds_data l.1) l ls (lines_where holds_data ls) refl (data_listed from ls)

-- none stands in the lines before the spot's
before : (from : Spot) (l : ℕ × List ℕ) → l.0 < from.line → data_of from l ≡ None
before from l h =
    let rest : Option Spot = option_map (λ u. record { line = l.0; unit = u }) (data_in (if l.0 == from.line then from.unit else 0) l.1) in
    cond-true (nat_lt l.0 from.line) None rest (is_less l.0 from.line h)

pub data_begins : (from : Spot) (ls : Lines) (i : ℕ) → IsRankOf from.line (keys_of ls) i → data_from from (drop i ls) ≡ data_from from ls
data_begins from ls zero h = refl
data_begins from [] (suc i) h = refl
data_begins from (l ∷ ls) (suc i) h =
    let less = h.less 0 (omega arith) in
    data_begins from ls i (shorter from.line l.0 i (keys_of ls) h)
    ∙ sym (ap (λ (o : Option Spot). or_else o (data_from from ls)) (before from l less))

pub data_here : (from : Spot) (ls : Lines) (i : ℕ) (spot : Spot) (found : Option Spot) → i < length ls → Some spot ≡ data_of from (get_or ls i no_line)
    → data_from from (drop i ls) ≡ found → Some spot ≡ found
data_here from ls i spot found h is rest =
    ap (λ (o : Option Spot). or_else o (data_from from (drop (i + 1) ls))) is
    ∙ sym (ap (data_from from) (drop_more ls i no_line h))
    ∙ rest

pub data_passed : (from : Spot) (ls : Lines) (i : ℕ) (found : Option Spot) → i < length ls → data_of from (get_or ls i no_line) ≡ None
    → data_from from (drop i ls) ≡ found → data_from from (drop (i + 1) ls) ≡ found
data_passed from ls i found h is rest =
    sym (ap (λ (o : Option Spot). or_else o (data_from from (drop (i + 1) ls))) is)
    ∙ sym (ap (data_from from) (drop_more ls i no_line h))
    ∙ rest

pub data_none : (from : Spot) (ls : Lines) (i : ℕ) (found : Option Spot) → length ls ≤ i → data_from from (drop i ls) ≡ found → None ≡ found
data_none from ls i found h rest = sym (ap (data_from from) (drop_all i ls h)) ∙ rest
