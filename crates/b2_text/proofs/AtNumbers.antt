-- The line of a number, at its place in an index.
use Rattle.std.proofs.Common.{All, ◌≡◌, ◌≢◌, ℕ, zero, suc, ◌+◌, ◌-◌, ◌<◌, ◌≤◌, ◌⊎◌, nat_lt, Bool, true, false, cond, List, [], ◌∷◌, ◌++◌, filter, length, take, drop, get_or, Some, None, refl, sym, ap, ◌∙◌, inl, inr, arith, nat_cmp, is_eq, Ordering, Less, Equal, Greater, not}
use Rattle.std.specs.List.{remove_range}
use Rattle.std.specs.List.Sorted.{IsStrictlySortedBy}
use Rattle.std.specs.Map.{keys_of}
use Rattle.std.specs.Ordering.{match_ordering}
use Rattle.std.specs.Cmp.{nat_cmp_is}
use Rattle.std.proofs.lemmas.Bool.{cases_order, cond-true, cond-false}
use Rattle.std.proofs.lemmas.Bool.Decides.{nat_tests}
use Rattle.std.proofs.lemmas.List.Elements.{All-get_or}
use Rattle.std.proofs.lemmas.Map.Keys.{below_from_sorted}
use Rattle.b2_text.specs.Program.{Lines, line_at, with_line, without, is_within, number_after, first_number}
use Rattle.b2_text.specs.Blocks.{IsAscending, IsPlaceOf, line_placed, lines_laid, no_place, number_at}
use Rattle.b2_text.specs.declared.block.LinePlace.{LinePlace}

-- the numbers of the lines are those of the index
pub key_at : (block : List ℕ) (places : List LinePlace) (i : ℕ) → i < length places → get_or (keys_of (lines_laid block places)) i 0 ≡ number_at places i
key_at block [] i h = absurd (omega arith)
key_at block (s ∷ ss) zero h = refl
key_at block (s ∷ ss) (suc i) h = key_at block ss i (omega arith)

pub length_keys : (block : List ℕ) (places : List LinePlace) → length (keys_of (lines_laid block places)) ≡ length places
length_keys block [] = refl
length_keys block (s ∷ ss) = let rest = length_keys block ss in omega (arith, rest)

pub ascending : (block : List ℕ) (places : List LinePlace) → IsStrictlySortedBy nat_cmp (keys_of (lines_laid block places)) → IsAscending places
ascending block places ordered = λ i j less within.
    let count = length_keys block places in
    let below = below_from_sorted (keys_of (lines_laid block places)) i j 0 ordered less (omega (arith, count, within)) in
    let low = key_at block places i (omega (arith, less, within)) in
    let high = key_at block places j within in
    omega (arith, below, low, high)

-- past the first place
shorter : (n : ℕ) (s : LinePlace) (ss : List LinePlace) (i : ℕ) → IsPlaceOf n (s ∷ ss) (suc i) → IsPlaceOf n ss i
shorter n s ss i h = record {
  within = omega (arith, h.within);
  below = λ k l. h.below (suc k) (omega arith);
  above = λ k l m. h.above (suc k) (omega arith) (omega arith);
}

-- tests of two numbers
same : (n m : ℕ) → n ≡ m → is_eq (nat_cmp n m) ≡ true
same n m h = grind (arith, nat_tests)

apart : (n m : ℕ) → n ≢ m → is_eq (nat_cmp n m) ≡ false
apart n m h = by_order (cases_order n m) where
  by_order : (n ≡ m) ⊎ ((n < m) ⊎ (m < n)) → is_eq (nat_cmp n m) ≡ false
  by_order (inl e) = absurd (h e)
  by_order (inr (inl l)) = grind (arith, nat_tests)
  by_order (inr (inr l)) = grind (arith, nat_tests)

more : (n m : ℕ) → m < n → is_eq (nat_cmp n m) ≡ false
more n m h = grind (arith, nat_tests)

pub line_there : (block : List ℕ) (n : ℕ) (places : List LinePlace) (i : ℕ) → IsPlaceOf n places i → i < length places → number_at places i ≡ n
    → line_at n (lines_laid block places) ≡ Some (line_placed block (get_or places i no_place)).1
line_there block n [] i h l e = absurd (omega arith)
line_there block n (s ∷ ss) zero h l e =
    cond-true (is_eq (nat_cmp n s.number)) (Some (line_placed block s).1) (line_at n (lines_laid block ss)) (same n s.number (sym e))
line_there block n (s ∷ ss) (suc i) h l e =
    let less = h.below 0 (omega arith) in
    cond-false (is_eq (nat_cmp n s.number)) (Some (line_placed block s).1) (line_at n (lines_laid block ss)) (more n s.number less)
    ∙ line_there block n ss i (shorter n s ss i h) (omega arith) e

pub line_none : (block : List ℕ) (n : ℕ) (places : List LinePlace) → ((k : ℕ) → k < length places → number_at places k ≢ n) → line_at n (lines_laid block places) ≡ None
line_none block n [] h = refl
line_none block n (s ∷ ss) h =
    cond-false (is_eq (nat_cmp n s.number)) (Some (line_placed block s).1) (line_at n (lines_laid block ss)) (apart n s.number (λ e. h 0 (omega arith) (sym e)))
    ∙ line_none block n ss (λ k l. h (suc k) (omega arith))

-- no line has a number that doesn't stand at its place
pub none_at : (n : ℕ) (places : List LinePlace) (i : ℕ) → IsPlaceOf n places i → IsAscending places → (i < length places → number_at places i ≢ n)
    → (k : ℕ) → k < length places → number_at places k ≢ n
none_at n places i h ordered other = λ k l e. elim (cases_order k i) [
  | inl at ↦ other (omega (arith, l, at)) (ap (number_at places) (sym at) ∙ e)
  | inr unequal ↦ elim unequal [
    | inl before ↦ (let b = h.below k before in omega (arith, b, e))
    | inr after ↦ (let a = h.above i (omega arith) (omega (arith, l, after)) in let o = ordered i k after l in omega (arith, a, o, e))
  ]
]

pub line_none_at : (block : List ℕ) (n : ℕ) (places : List LinePlace) (i : ℕ) → IsPlaceOf n places i → IsAscending places → (i < length places → number_at places i ≢ n)
    → line_at n (lines_laid block places) ≡ None
line_none_at block n places i h ordered other = line_none block n places (none_at n places i h ordered other)

-- a line put in where none of its number is
least : (x y : ℕ) → x ≤ y → y ≢ x → x < y
least x y l ne = elim (cases_order x y) [
  | inl e ↦ absurd (ne (sym e))
  | inr other ↦ elim other [
    | inl less ↦ less
    | inr greater ↦ absurd (omega (arith, l, greater))
  ]
]

-- what with_line makes of a line and those after it, by the order of the numbers
by_order : (block : List ℕ) (n : ℕ) (a : List ℕ) (s : LinePlace) (ss : List LinePlace) → Ordering → Lines
by_order block n a s ss r =
    match_ordering r ((n, a) ∷ lines_laid block (s ∷ ss)) ((s.number, a) ∷ lines_laid block ss) (line_placed block s ∷ with_line n a (lines_laid block ss))

with_less : (block : List ℕ) (n : ℕ) (a : List ℕ) (s : LinePlace) (ss : List LinePlace) → n < s.number
    → with_line n a (lines_laid block (s ∷ ss)) ≡ (n, a) ∷ lines_laid block (s ∷ ss)
unfolding by_order
with_less block n a s ss h = sym (ap (by_order block n a s ss) (nat_cmp_is n s.number Less h))

with_same : (block : List ℕ) (n : ℕ) (a : List ℕ) (s : LinePlace) (ss : List LinePlace) → n ≡ s.number
    → with_line n a (lines_laid block (s ∷ ss)) ≡ (s.number, a) ∷ lines_laid block ss
unfolding by_order
with_same block n a s ss h = sym (ap (by_order block n a s ss) (nat_cmp_is n s.number Equal h))

with_more : (block : List ℕ) (n : ℕ) (a : List ℕ) (s : LinePlace) (ss : List LinePlace) → s.number < n
    → with_line n a (lines_laid block (s ∷ ss)) ≡ line_placed block s ∷ with_line n a (lines_laid block ss)
unfolding by_order
with_more block n a s ss h = sym (ap (by_order block n a s ss) (nat_cmp_is n s.number Greater h))

pub put_new : (block : List ℕ) (n : ℕ) (a : List ℕ) (places : List LinePlace) (i : ℕ) → IsPlaceOf n places i → ((k : ℕ) → k < length places → number_at places k ≢ n)
    → take i (lines_laid block places) ++ ((n, a) ∷ drop i (lines_laid block places)) ≡ with_line n a (lines_laid block places)
put_new block n a [] zero h other = refl
put_new block n a [] (suc i) h other = absurd (omega (arith, h.within))
put_new block n a (s ∷ ss) zero h other =
    let low = h.above 0 (omega arith) (omega arith) in
    sym (with_less block n a s ss (least n s.number low (other 0 (omega arith))))
put_new block n a (s ∷ ss) (suc i) h other =
    let below = h.below 0 (omega arith) in
    ap (λ (ls : Lines). line_placed block s ∷ ls) (put_new block n a ss i (shorter n s ss i h) (λ k l. other (suc k) (omega arith)))
    ∙ sym (with_more block n a s ss below)

-- and one that gives way
pub put_over : (block : List ℕ) (n : ℕ) (a : List ℕ) (places : List LinePlace) (i : ℕ) → IsPlaceOf n places i → i < length places → number_at places i ≡ n
    → take i (lines_laid block places) ++ ((n, a) ∷ drop (suc i) (lines_laid block places)) ≡ with_line n a (lines_laid block places)
put_over block n a [] i h l e = absurd (omega arith)
put_over block n a (s ∷ ss) zero h l e = ap (λ (m : ℕ). (m, a) ∷ lines_laid block ss) (sym e) ∙ sym (with_same block n a s ss (sym e))
put_over block n a (s ∷ ss) (suc i) h l e =
    let below = h.below 0 (omega arith) in
    ap (λ (ls : Lines). line_placed block s ∷ ls) (put_over block n a ss i (shorter n s ss i h) (omega arith) e)
    ∙ sym (with_more block n a s ss below)

-- the end is the place after all numbers there are
pub last_place : (block : List ℕ) (n : ℕ) (places : List LinePlace) → All (λ m. m ≤ 9999) (keys_of (lines_laid block places)) → 9999 ≤ n
    → IsPlaceOf (n + 1) places (length places)
last_place block n places all far = record {
  within = omega arith;
  below = λ k l. (let count = length_keys block places in
      let here = key_at block places k l in
      let few = All-get_or (λ m. m ≤ 9999) (keys_of (lines_laid block places)) k 0 (omega (arith, count, l)) all in
      omega (arith, here, few, far));
  above = λ k h l. absurd (omega (arith, h, l));
}

-- the lines between two places are those of the numbers between
kept : (from to n : ℕ) (rest es : Lines) (l : ℕ × List ℕ) → not (is_within from to l.0) ≡ true → rest ≡ es → l ∷ rest ≡ cond (not (is_within from to l.0)) (l ∷ es) es
kept from to n rest es l out is = ap (λ (ls : Lines). l ∷ ls) is ∙ sym (cond-true (not (is_within from to l.0)) (l ∷ es) es out)

below_range : (from to n : ℕ) → n < from → not (is_within from to n) ≡ true
below_range from to n h = grind (arith, nat_tests)

above_range : (from to n : ℕ) → to < n → not (is_within from to n) ≡ true
above_range from to n h = grind (arith, nat_tests)

in_range : (from to n : ℕ) → from ≤ n → n ≤ to → not (is_within from to n) ≡ false
in_range from to n h g = grind (arith, nat_tests)

pub range_out : (block : List ℕ) (from to : ℕ) (places : List LinePlace) (i j : ℕ) → i ≤ j → IsPlaceOf from places i → IsPlaceOf (to + 1) places j
    → remove_range (lines_laid block places) i j ≡ without from to (lines_laid block places)
range_out block from to [] zero zero order low high = refl
range_out block from to [] zero (suc j) order low high = absurd (omega (arith, high.within))
range_out block from to [] (suc i) j order low high = absurd (omega (arith, low.within))
range_out block from to (s ∷ ss) (suc i) zero order low high = absurd (omega arith)
range_out block from to (s ∷ ss) (suc i) (suc j) order low high =
    let below = low.below 0 (omega arith) in
    kept from to s.number (remove_range (lines_laid block ss) i j) (without from to (lines_laid block ss)) (line_placed block s) (below_range from to s.number below)
    (range_out block from to ss i j (omega arith) (shorter from s ss i low) (shorter (to + 1) s ss j high))
range_out block from to (s ∷ ss) zero zero order low high =
    let above = high.above 0 (omega arith) (omega arith) in
    kept from to s.number (lines_laid block ss) (without from to (lines_laid block ss)) (line_placed block s) (above_range from to s.number (omega (arith, above)))
    (range_out block from to ss zero zero (omega arith) (rest_low low) (rest_high high)) where
      rest_low : IsPlaceOf from (s ∷ ss) zero → IsPlaceOf from ss zero
      rest_low h = record { within = omega arith; below = λ k l. absurd (omega arith); above = λ k l m. h.above (suc k) (omega arith) (omega arith) }

      rest_high : IsPlaceOf (to + 1) (s ∷ ss) zero → IsPlaceOf (to + 1) ss zero
      rest_high h = record { within = omega arith; below = λ k l. absurd (omega arith); above = λ k l m. h.above (suc k) (omega arith) (omega arith) }
range_out block from to (s ∷ ss) zero (suc j) order low high =
    let least_ = low.above 0 (omega arith) (omega arith) in
    let most = high.below 0 (omega arith) in
    range_out block from to ss zero j (omega arith) (rest_low low) (shorter (to + 1) s ss j high)
    ∙ sym (cond-false (not (is_within from to s.number)) (line_placed block s ∷ without from to (lines_laid block ss)) (without from to (lines_laid block ss)) (in_range from to s.number least_ (omega (arith, most)))) where
      rest_low : IsPlaceOf from (s ∷ ss) zero → IsPlaceOf from ss zero
      rest_low h = record { within = omega arith; below = λ k l. absurd (omega arith); above = λ k l m. h.above (suc k) (omega arith) (omega arith) }

-- and those lines, one after another
out_by : (b : Bool) (l : ℕ × List ℕ) (ls : Lines) → not b ≡ true → cond b (l ∷ ls) ls ≡ ls
out_by true l ls h = cc
out_by false l ls h = refl

in_by : (b : Bool) (l : ℕ × List ℕ) (ls : Lines) → not b ≡ false → cond b (l ∷ ls) ls ≡ l ∷ ls
in_by true l ls h = refl
in_by false l ls h = cc

abbrev within_range : ℕ → ℕ → Lines → Lines
within_range from to ls = filter (λ l. is_within from to l.0) ls

pub range_in : (block : List ℕ) (from to : ℕ) (places : List LinePlace) (i j : ℕ) → i ≤ j → IsPlaceOf from places i → IsPlaceOf (to + 1) places j
    → within_range from to (lines_laid block places) ≡ take (j - i) (drop i (lines_laid block places))
range_in block from to [] zero zero order low high = refl
range_in block from to [] zero (suc j) order low high = absurd (omega (arith, high.within))
range_in block from to [] (suc i) j order low high = absurd (omega (arith, low.within))
range_in block from to (s ∷ ss) (suc i) zero order low high = absurd (omega arith)
range_in block from to (s ∷ ss) (suc i) (suc j) order low high =
    let below = low.below 0 (omega arith) in
    let same : j - i ≡ suc j - suc i = omega arith in
    out_by (is_within from to s.number) (line_placed block s) (within_range from to (lines_laid block ss)) (below_range from to s.number below)
    ∙ range_in block from to ss i j (omega arith) (shorter from s ss i low) (shorter (to + 1) s ss j high)
    ∙ ap (λ (k : ℕ). take k (drop i (lines_laid block ss))) same
range_in block from to (s ∷ ss) zero zero order low high =
    let above = high.above 0 (omega arith) (omega arith) in
    out_by (is_within from to s.number) (line_placed block s) (within_range from to (lines_laid block ss)) (above_range from to s.number (omega (arith, above)))
    ∙ range_in block from to ss zero zero (omega arith) (rest_low low) (rest_high high) where
      rest_low : IsPlaceOf from (s ∷ ss) zero → IsPlaceOf from ss zero
      rest_low h = record { within = omega arith; below = λ k l. absurd (omega arith); above = λ k l m. h.above (suc k) (omega arith) (omega arith) }

      rest_high : IsPlaceOf (to + 1) (s ∷ ss) zero → IsPlaceOf (to + 1) ss zero
      rest_high h = record { within = omega arith; below = λ k l. absurd (omega arith); above = λ k l m. h.above (suc k) (omega arith) (omega arith) }
range_in block from to (s ∷ ss) zero (suc j) order low high =
    let least_ = low.above 0 (omega arith) (omega arith) in
    let most = high.below 0 (omega arith) in
    let here : suc (j - 0) ≡ suc j - 0 = omega arith in
    in_by (is_within from to s.number) (line_placed block s) (within_range from to (lines_laid block ss)) (in_range from to s.number least_ (omega (arith, most)))
    ∙ ap (λ (ls : Lines). line_placed block s ∷ ls) (range_in block from to ss zero j (omega arith) (rest_low low) (shorter (to + 1) s ss j high))
    ∙ ap (λ (k : ℕ). take k (line_placed block s ∷ lines_laid block ss)) here where
      rest_low : IsPlaceOf from (s ∷ ss) zero → IsPlaceOf from ss zero
      rest_low h = record { within = omega arith; below = λ k l. absurd (omega arith); above = λ k l m. h.above (suc k) (omega arith) (omega arith) }

-- the least number above another
next_passed : (block : List ℕ) (n : ℕ) (s : LinePlace) (ss : List LinePlace) → s.number ≤ n → number_after (Some n) (lines_laid block (s ∷ ss)) ≡ number_after (Some n) (lines_laid block ss)
next_passed block n s ss h =
    ap first_number (cond-false (nat_lt n s.number) (line_placed block s ∷ filter (λ l. nat_lt n l.0) (lines_laid block ss)) (filter (λ l. nat_lt n l.0) (lines_laid block ss)) (not_above n s.number h)) where
      not_above : (n m : ℕ) → m ≤ n → nat_lt n m ≡ false
      not_above n m h = grind (arith, nat_tests)

next_found : (block : List ℕ) (n : ℕ) (s : LinePlace) (ss : List LinePlace) → n < s.number → number_after (Some n) (lines_laid block (s ∷ ss)) ≡ Some s.number
next_found block n s ss h =
    ap first_number (cond-true (nat_lt n s.number) (line_placed block s ∷ filter (λ l. nat_lt n l.0) (lines_laid block ss)) (filter (λ l. nat_lt n l.0) (lines_laid block ss)) (is_above n s.number h)) where
      is_above : (n m : ℕ) → n < m → nat_lt n m ≡ true
      is_above n m h = grind (arith, nat_tests)

pub next_there : (block : List ℕ) (n : ℕ) (places : List LinePlace) (i : ℕ) → IsPlaceOf (n + 1) places i → i < length places
    → number_after (Some n) (lines_laid block places) ≡ Some (number_at places i)
next_there block n [] i h l = absurd (omega arith)
next_there block n (s ∷ ss) zero h l = let a = h.above 0 (omega arith) (omega arith) in next_found block n s ss (omega (arith, a))
next_there block n (s ∷ ss) (suc i) h l =
    let b = h.below 0 (omega arith) in
    next_passed block n s ss (omega (arith, b)) ∙ next_there block n ss i (shorter (n + 1) s ss i h) (omega arith)

pub next_none : (block : List ℕ) (n : ℕ) (places : List LinePlace) → IsPlaceOf (n + 1) places (length places) → number_after (Some n) (lines_laid block places) ≡ None
next_none block n [] h = refl
next_none block n (s ∷ ss) h =
    let b = h.below 0 (omega arith) in
    next_passed block n s ss (omega (arith, b)) ∙ next_none block n ss (shorter (n + 1) s ss (length ss) h)

-- a greater number has its place no earlier
pub in_order : (n m i j : ℕ) (places : List LinePlace) → n ≤ m → IsPlaceOf n places i → IsPlaceOf m places j → i ≤ j
in_order n m i j places h low high = elim (cases_order i j) [
  | inl at ↦ omega (arith, at)
  | inr unequal ↦ elim unequal [
    | inl before ↦ omega (arith, before)
    | inr after ↦ (let b = low.below j after in let a = high.above j (omega arith) (omega (arith, after, low.within)) in absurd (omega (arith, a, b, h)))
  ]
]
