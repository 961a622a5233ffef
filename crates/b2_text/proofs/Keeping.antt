-- What a text keeps stays so: empty, with a line put in, and with lines taken out; and it has room for what fits in its area.
use Rattle.std.proofs.Common.{◌≡◌, ℕ, ◌+◌, ◌-◌, ◌*◌, ◌<◌, ◌≤◌, nat_lt, All, Bool, true, false, cond, not, filter, List, [], ◌∷◌, length, refl, sym, ap, subst, ◌∙◌, arith, nat_cmp, Ordering, Less, Equal, Greater, Some, None}
use Rattle.std.proofs.lemmas.Bool.{cond-false}
use Rattle.std.proofs.lemmas.Bool.Decides.{nat_tests}
use Rattle.std.proofs.lemmas.List.Elements.{All-cons, All-nil, All-head, All-tail}
use Rattle.std.proofs.lemmas.Map.Views.{All-keys-insert_entry}
use Rattle.std.specs.List.Sorted.{IsStrictlySortedBy}
use Rattle.std.specs.Map.{keys_of}
use Rattle.std.specs.Ordering.{match_ordering}
use Rattle.b2_atom.specs.Lines.{KeepsUnits, is_line}
use Rattle.b2_atom.specs.declared.spans.Span.{Span}
use Rattle.b2_text.specs.Program.{Lines, cost, cost_at, first_number, is_within, number_after, size_of, with_line, without}
use Rattle.b2_text.specs.Blocks.{AreSpansOf, IsKept, IsLaid, IsRoomy, lines_laid, units_in}
use Rattle.b2_text.specs.declared.block.LinePlace.{LinePlace}
use Rattle.b2_text.proofs.Blocks.{length_laid}
use Rattle.b2_text.proofs.FewUnits.{AreLines, two_thirds}
use Rattle.b2_text.proofs.NoLine.{some_bytes}
use Rattle.b2_text.proofs.Sizes.{cost_at-le, size_of-with_line}

-- a text of no lines
pub kept_none : (area : ℕ) (block : List ℕ) (places : List LinePlace) (units : List Span) → block ≡ [] → places ≡ [] → units ≡ [] → IsKept area block places units
unfolding IsStrictlySortedBy
kept_none area block places units none empty no_units =
    subst (λ (b : List ℕ). IsKept area b places units) (sym none)
    (subst (λ (ps : List LinePlace). IsKept area [] ps units) (sym empty)
    (subst (λ (us : List Span). IsKept area [] [] us) (sym no_units)
    (record {
      laid = record { spelled_is = refl; places_are = refl };
      ordered = tt;
      small = All-nil (λ n. n ≤ 9999);
      spans = refl;
      fits = omega arith;
    })))

-- what is kept are lines, also with another
pub lines_kept : (ls : Lines) (xs : List Span) → AreSpansOf ls xs → AreLines ls
lines_kept [] xs h = tt
lines_kept (l ∷ ls) xs h = (h.0.line_is, lines_kept ls _ h.1)

lines_by : (o : Ordering) (n : ℕ) (a : List ℕ) (l : ℕ × List ℕ) (ls rest : Lines) → is_line a ≡ true → AreLines (l ∷ ls) → AreLines rest
    → AreLines (match_ordering o ((n, a) ∷ l ∷ ls) ((l.0, a) ∷ ls) (l ∷ rest))
lines_by Less n a l ls rest h all later = (h, all)
lines_by Equal n a l ls rest h all later = (h, all.1)
lines_by Greater n a l ls rest h all later = (all.0, later)

pub lines_with : (n : ℕ) (a : List ℕ) (ls : Lines) → is_line a ≡ true → AreLines ls → AreLines (with_line n a ls)
lines_with n a [] h all = (h, tt)
lines_with n a (l ∷ ls) h all = lines_by (nat_cmp n l.0) n a l ls (with_line n a ls) h all (lines_with n a ls h all.1)

few_lines : (ls : Lines) → AreLines ls → 6 * length ls ≤ size_of ls
few_lines [] all = omega arith
few_lines (l ∷ ls) all = let rest = few_lines ls all.1 in let here = some_bytes l.1 all.0 in omega (arith, rest, here)

-- there is room for a line that fits
pub record HasRoom (area bytes places units : ℕ) (ls : Lines) : Type 0 where
  pub small : size_of ls ≤ 65535
  pub bytes_fit : size_of ls ≤ bytes
  pub units_fit : units_in ls ≤ units
  pub lines_fit : length ls ≤ places

pub room_for : (area bytes slots places_ : ℕ) (n : ℕ) (a : List ℕ) (spans : List Span) (block : List ℕ) (places : List LinePlace) (units : List Span)
    → IsKept area block places units → IsRoomy area bytes places_ slots → KeepsUnits a spans → size_of (with_line n a (lines_laid block places)) ≤ area
    → HasRoom area bytes places_ slots (with_line n a (lines_laid block places))
room_for area bytes slots places_ n a spans block places units kept roomy line fits =
    let ls = with_line n a (lines_laid block places) in
    let all = lines_with n a (lines_laid block places) line.line_is (lines_kept (lines_laid block places) units kept.spans) in
    let some = two_thirds ls all in
    let few = few_lines ls all in
    record {
      small = omega (arith, fits, roomy.few);
      bytes_fit = omega (arith, fits, roomy.for_bytes);
      units_fit = omega (arith, fits, some, roomy.for_units);
      lines_fit = omega (arith, fits, few, roomy.for_places);
    }

-- which it does by its cost
pub fitting : (area n : ℕ) (a : List ℕ) (block : List ℕ) (places : List LinePlace) (units : List Span) → IsKept area block places units
    → cost a ≤ area - (length block - cost_at n (lines_laid block places)) → size_of (with_line n a (lines_laid block places)) ≤ area
fitting area n a block places units kept room =
    let ls = lines_laid block places in
    let put = size_of-with_line n a ls kept.ordered in
    let part = cost_at-le n ls in
    let whole = length_laid block places kept.laid in
    omega (arith, put, part, whole, kept.fits, room)

-- as it is told in other numbers
pub fits_by : (area n there len : ℕ) (a b : List ℕ) (block : List ℕ) (places : List LinePlace) (units : List Span) → IsKept area block places units → b ≡ a
    → there ≡ cost_at n (lines_laid block places) → len ≡ length block → length b + 5 ≤ area - (len - there) → size_of (with_line n a (lines_laid block places)) ≤ area
fits_by area n there len a b block places units kept is costs long room =
    let same = ap (λ (x : List ℕ). length x) is in
    fitting area n a block places units kept (omega (arith, same, costs, long, room))

pub over : (area n : ℕ) (a : List ℕ) (block : List ℕ) (places : List LinePlace) (units : List Span) → IsKept area block places units
    → area - (length block - cost_at n (lines_laid block places)) < cost a → area < size_of (with_line n a (lines_laid block places))
over area n a block places units kept more =
    let ls = lines_laid block places in
    let put = size_of-with_line n a ls kept.ordered in
    let part = cost_at-le n ls in
    let whole = length_laid block places kept.laid in
    omega (arith, put, part, whole, kept.fits, more)

-- a line put in
pub kept_with : (area n : ℕ) (a : List ℕ) (block new : List ℕ) (places index : List LinePlace) (units more : List Span) → n ≤ 9999 → IsKept area block places units
    → size_of (with_line n a (lines_laid block places)) ≤ area → IsLaid new index → lines_laid new index ≡ with_line n a (lines_laid block places)
    → IsStrictlySortedBy nat_cmp (keys_of (lines_laid new index)) → AreSpansOf (lines_laid new index) more → IsKept area new index more
kept_with area n a block new places index units more within kept fits laid is ordered spans =
    let whole = length_laid new index laid in
    let size = ap size_of is in
    record {
      laid = laid;
      ordered = ordered;
      small = subst (λ (ls : Lines). All (λ m. m ≤ 9999) (keys_of ls)) (sym is) (All-keys-insert_entry nat_cmp n a (λ m. m ≤ 9999) (lines_laid block places) kept.small within);
      spans = spans;
      fits = omega (arith, whole, size, fits);
    }

-- lines taken out
small_by : (b : Bool) (l : ℕ × List ℕ) (ls rest : Lines) → l.0 ≤ 9999 → All (λ m. m ≤ 9999) (keys_of rest) → All (λ m. m ≤ 9999) (keys_of (cond b (l ∷ rest) rest))
small_by true l ls rest here later = All-cons (λ m. m ≤ 9999) l.0 (keys_of rest) here later
small_by false l ls rest here later = later

pub small_without : (from to : ℕ) (ls : Lines) → All (λ m. m ≤ 9999) (keys_of ls) → All (λ m. m ≤ 9999) (keys_of (without from to ls))
small_without from to [] all = all
small_without from to (l ∷ ls) all =
    small_by (not (is_within from to l.0)) l ls (without from to ls) (All-head (λ m. m ≤ 9999) l.0 (keys_of ls) all)
    (small_without from to ls (All-tail (λ m. m ≤ 9999) l.0 (keys_of ls) all))

less_by : (b : Bool) (l : ℕ × List ℕ) (ls rest : Lines) → size_of rest ≤ size_of ls → size_of (cond b (l ∷ rest) rest) ≤ size_of (l ∷ ls)
less_by true l ls rest h = omega (arith, h)
less_by false l ls rest h = omega (arith, h)

size_without : (from to : ℕ) (ls : Lines) → size_of (without from to ls) ≤ size_of ls
size_without from to [] = omega arith
size_without from to (l ∷ ls) = less_by (not (is_within from to l.0)) l ls (without from to ls) (size_without from to ls)

pub kept_without : (area from to : ℕ) (block new : List ℕ) (places index : List LinePlace) (units left : List Span) → IsKept area block places units
    → IsLaid new index → lines_laid new index ≡ without from to (lines_laid block places)
    → IsStrictlySortedBy nat_cmp (keys_of (lines_laid new index)) → AreSpansOf (lines_laid new index) left → IsKept area new index left
kept_without area from to block new places index units left kept laid is ordered spans =
    let whole = length_laid new index laid in
    let before = length_laid block places kept.laid in
    let size = ap size_of is in
    let less = size_without from to (lines_laid block places) in
    record {
      laid = laid;
      ordered = ordered;
      small = subst (λ (ls : Lines). All (λ m. m ≤ 9999) (keys_of ls)) (sym is) (small_without from to (lines_laid block places) kept.small);
      spans = spans;
      fits = omega (arith, whole, before, size, less, kept.fits);
    }

-- no number is above the last
above_last : (n m : ℕ) → 9999 ≤ n → m ≤ 9999 → nat_lt n m ≡ false
above_last n m h g = grind (arith, nat_tests)

pub none_after : (n : ℕ) (ls : Lines) → All (λ m. m ≤ 9999) (keys_of ls) → 9999 ≤ n → number_after (Some n) ls ≡ None
none_after n [] all h = refl
none_after n (l ∷ ls) all h =
    ap first_number (cond-false (nat_lt n l.0) (l ∷ filter (λ k. nat_lt n k.0) ls) (filter (λ k. nat_lt n k.0) ls) (above_last n l.0 h (All-head (λ m. m ≤ 9999) l.0 (keys_of ls) all)))
    ∙ none_after n ls (All-tail (λ m. m ≤ 9999) l.0 (keys_of ls) all) h
