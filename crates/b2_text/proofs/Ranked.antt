-- An ascending list of numbers, cut at the place of one.
use Rattle.std.proofs.Common.{◌≡◌, ℕ, zero, suc, ◌+◌, ◌<◌, ◌≤◌, ◌==◌, nat_lt, nat_le, Bool, true, false, not, List, [], ◌∷◌, ◌++◌, filter, length, take, drop, slice_get, refl, sym, ap, ◌∙◌, arith, nat_cmp, Less}
use Rattle.std.specs.List.{AllByRecursion, remove_range, splice}
use Rattle.std.specs.List.Sorted.{IsStrictlySortedBy}
use Rattle.std.specs.Option.{option_map_or}
use Rattle.std.proofs.lemmas.Bool.{cond-true, cond-false}
use Rattle.std.proofs.lemmas.Bool.Decides.{nat_tests}
use Rattle.std.proofs.lemmas.List.{take-append-drop, length-append}
use Rattle.b2_text.specs.Program.{is_within}
use Rattle.b2_text.proofs.Sizes.{less}
use Rattle.b2_text.specs.Members.{IsRankOf, greater, lesser, with_member, without_members}

-- what holds of each number
pub all_more : (P Q : ℕ → Type 0) (ns : List ℕ) → ((m : ℕ) → P m → Q m) → AllByRecursion P ns → AllByRecursion Q ns
all_more P Q [] more all = tt
all_more P Q (m ∷ ns) more all = (more m all.0, all_more P Q ns more all.1)

keeps_all : (test : ℕ → Bool) (ns : List ℕ) → AllByRecursion (λ m. test m ≡ true) ns → filter test ns ≡ ns
keeps_all test [] all = refl
keeps_all test (m ∷ ns) all =
    cond-true (test m) (m ∷ filter test ns) (filter test ns) all.0 ∙ ap (λ (ms : List ℕ). m ∷ ms) (keeps_all test ns all.1)

keeps_none : (test : ℕ → Bool) (ns : List ℕ) → AllByRecursion (λ m. test m ≡ false) ns → filter test ns ≡ []
keeps_none test [] all = refl
keeps_none test (m ∷ ns) all = cond-false (test m) (m ∷ filter test ns) (filter test ns) all.0 ∙ keeps_none test ns all.1

-- tests of two numbers
pub is_less : (n m : ℕ) → n < m → nat_lt n m ≡ true
is_less n m h = grind (arith, nat_tests)

pub not_less : (n m : ℕ) → m ≤ n → nat_lt n m ≡ false
not_less n m h = grind (arith, nat_tests)

-- numbers that are above another, or not below it
pub all_above : (n : ℕ) (ns : List ℕ) → AllByRecursion (λ m. n < m) ns → greater n ns ≡ ns
all_above n ns all = keeps_all (λ m. nat_lt n m) ns (all_more (λ m. n < m) (λ m. nat_lt n m ≡ true) ns (λ m h. is_less n m h) all)

pub none_below : (n : ℕ) (ns : List ℕ) → AllByRecursion (λ m. n ≤ m) ns → lesser n ns ≡ []
none_below n ns all = keeps_none (λ m. nat_lt m n) ns (all_more (λ m. n ≤ m) (λ m. nat_lt m n ≡ false) ns (λ m h. not_less m n h) all)

-- the numbers after the first are above it
pub rest_above : (n m : ℕ) (ns : List ℕ) → n ≤ m → AllByRecursion (λ k. nat_cmp m k ≡ Less) ns → AllByRecursion (λ k. n < k) ns
rest_above n m ns h all = all_more (λ k. nat_cmp m k ≡ Less) (λ k. n < k) ns (λ k l. let more = less m k l in omega (arith, more, h)) all

-- past the first number
pub shorter : (n m i : ℕ) (ns : List ℕ) → IsRankOf n (m ∷ ns) (suc i) → IsRankOf n ns i
shorter n m i ns h = record {
  within = omega (arith, h.within);
  less = λ k l. h.less (suc k) (omega arith);
  rest = λ k l w. h.rest (suc k) (omega arith) (omega arith);
}

shorter_none : (n m : ℕ) (ns : List ℕ) → IsRankOf n (m ∷ ns) zero → IsRankOf n ns zero
shorter_none n m ns h = record {
  within = omega arith;
  less = λ k l. absurd (omega arith);
  rest = λ k l w. h.rest (suc k) (omega arith) (omega arith);
}

-- what stands before the place of a number is less than it
front_is : (n i : ℕ) (ns : List ℕ) → IsRankOf n ns i → take i ns ≡ lesser n ns
front_is n zero [] h = refl
front_is n (suc i) [] h = refl
front_is n zero (m ∷ ns) h =
    let least = h.rest 0 (omega arith) (omega arith) in
    front_is n zero ns (shorter_none n m ns h) ∙ sym (cond-false (nat_lt m n) (m ∷ lesser n ns) (lesser n ns) (not_less m n least))
front_is n (suc i) (m ∷ ns) h =
    let less = h.less 0 (omega arith) in
    ap (λ (ms : List ℕ). m ∷ ms) (front_is n i ns (shorter n m i ns h)) ∙ sym (cond-true (nat_lt m n) (m ∷ lesser n ns) (lesser n ns) (is_less m n less))

-- whether the number itself stands there
abbrev pub stands : ℕ → ℕ → List ℕ → Bool
stands n i ns = option_map_or (λ m. m == n) (slice_get ns i) false

same : (n m : ℕ) → (m == n) ≡ true → m ≡ n
same n m h = grind (arith, nat_tests)

other : (n m : ℕ) → (m == n) ≡ false → n ≤ m → n < m
other n m h l = grind (arith, nat_tests)

-- then what is above it stands after it
rest_after : (n i : ℕ) (ns : List ℕ) → IsRankOf n ns i → IsStrictlySortedBy nat_cmp ns → stands n i ns ≡ true → drop (suc i) ns ≡ greater n ns
unfolding IsStrictlySortedBy
rest_after n zero [] h ordered is = cc
rest_after n (suc i) [] h ordered is = cc
rest_after n zero (m ∷ ns) h ordered is =
    let at = same n m is in
    sym (cond-false (nat_lt n m) (m ∷ greater n ns) (greater n ns) (not_less n m (omega (arith, at))) ∙ all_above n ns (rest_above n m ns (omega (arith, at)) ordered.0))
rest_after n (suc i) (m ∷ ns) h ordered is =
    let less = h.less 0 (omega arith) in
    rest_after n i ns (shorter n m i ns h) ordered.1 is ∙ sym (cond-false (nat_lt n m) (m ∷ greater n ns) (greater n ns) (not_less n m (omega (arith, less))))

-- and else from its place on
rest_here : (n i : ℕ) (ns : List ℕ) → IsRankOf n ns i → IsStrictlySortedBy nat_cmp ns → stands n i ns ≡ false → drop i ns ≡ greater n ns
unfolding IsStrictlySortedBy
rest_here n zero [] h ordered is = refl
rest_here n (suc i) [] h ordered is = refl
rest_here n zero (m ∷ ns) h ordered is =
    let least = h.rest 0 (omega arith) (omega arith) in
    let less = other n m is least in
    sym (all_above n (m ∷ ns) (less, rest_above n m ns (omega (arith, less)) ordered.0))
rest_here n (suc i) (m ∷ ns) h ordered is =
    let less = h.less 0 (omega arith) in
    rest_here n i ns (shorter n m i ns h) ordered.1 is ∙ sym (cond-false (nat_lt n m) (m ∷ greater n ns) (greater n ns) (not_less n m (omega (arith, less))))

itself : (n i : ℕ) (ns : List ℕ) → stands n i ns ≡ true → drop i ns ≡ n ∷ drop (suc i) ns
itself n zero [] is = cc
itself n (suc i) [] is = cc
itself n zero (m ∷ ns) is = ap (λ (k : ℕ). k ∷ ns) (same n m is)
itself n (suc i) (m ∷ ns) is = itself n i ns is

-- a number that stands already, one that is put in, one that is taken out, and one that doesn't stand
pub standing : (n i : ℕ) (ns : List ℕ) → IsRankOf n ns i → IsStrictlySortedBy nat_cmp ns → stands n i ns ≡ true → ns ≡ with_member true n ns
standing n i ns h ordered is =
    sym (take-append-drop i ns) ∙ (λ x. front_is n i ns h x ++ (itself n i ns is ∙ ap (λ (ms : List ℕ). n ∷ ms) (rest_after n i ns h ordered is)) x)

pub put_there : (n i : ℕ) (ns : List ℕ) → IsRankOf n ns i → IsStrictlySortedBy nat_cmp ns → stands n i ns ≡ false → splice ns i i (n ∷ []) ≡ with_member true n ns
put_there n i ns h ordered is = (λ x. front_is n i ns h x ++ (n ∷ rest_here n i ns h ordered is x))

pub taken : (n i : ℕ) (ns : List ℕ) → IsRankOf n ns i → IsStrictlySortedBy nat_cmp ns → stands n i ns ≡ true → remove_range ns i (suc i) ≡ with_member false n ns
taken n i ns h ordered is = (λ x. front_is n i ns h x ++ rest_after n i ns h ordered is x)

pub absent : (n i : ℕ) (ns : List ℕ) → IsRankOf n ns i → IsStrictlySortedBy nat_cmp ns → stands n i ns ≡ false → ns ≡ with_member false n ns
absent n i ns h ordered is = sym (take-append-drop i ns) ∙ (λ x. front_is n i ns h x ++ rest_here n i ns h ordered is x)

-- one that is put in takes a place
pub longer : (n i : ℕ) (ns : List ℕ) → IsRankOf n ns i → IsStrictlySortedBy nat_cmp ns → stands n i ns ≡ false → length (with_member true n ns) ≡ suc (length ns)
longer n i ns h ordered is =
    let without = ap (λ (ms : List ℕ). length ms) (absent n i ns h ordered is) in
    let parts = length-append (lesser n ns) (greater n ns) in
    let with = length-append (lesser n ns) (n ∷ greater n ns) in
    omega (arith, without, parts, with)

-- the numbers outside of a range
abbrev at_least : ℕ → List ℕ → List ℕ
at_least n ns = filter (λ m. nat_le n m) ns

no_less : (n m : ℕ) → n ≤ m → nat_le n m ≡ true
no_less n m h = grind (arith, nat_tests)

less_than : (n m : ℕ) → m < n → nat_le n m ≡ false
less_than n m h = grind (arith, nat_tests)

rest_is : (n i : ℕ) (ns : List ℕ) → IsRankOf n ns i → drop i ns ≡ at_least n ns
rest_is n zero [] h = refl
rest_is n (suc i) [] h = refl
rest_is n zero (m ∷ ns) h =
    let least = h.rest 0 (omega arith) (omega arith) in
    ap (λ (ms : List ℕ). m ∷ ms) (rest_is n zero ns (shorter_none n m ns h)) ∙ sym (cond-true (nat_le n m) (m ∷ at_least n ns) (at_least n ns) (no_less n m least))
rest_is n (suc i) (m ∷ ns) h =
    let less = h.less 0 (omega arith) in
    rest_is n i ns (shorter n m i ns h) ∙ sym (cond-false (nat_le n m) (m ∷ at_least n ns) (at_least n ns) (less_than n m less))

before : (from to m : ℕ) → nat_lt m from ≡ true → from ≤ to → (nat_le (to + 1) m ≡ false) × (not (is_within from to m) ≡ true)
before from to m h order = ((grind (arith, nat_tests)), (grind (arith, nat_tests)))

inside : (from to m : ℕ) → nat_lt m from ≡ false → nat_lt to m ≡ false → (nat_le (to + 1) m ≡ false) × (not (is_within from to m) ≡ false)
inside from to m h g = ((grind (arith, nat_tests)), (grind (arith, nat_tests)))

after : (from to m : ℕ) → to < m → not (is_within from to m) ≡ true
after from to m h = grind (arith, nat_tests)

past : (from to m : ℕ) → nat_lt to m ≡ true → to < m
past from to m h = grind (arith, nat_tests)

-- numbers above the range
all_after : (from to : ℕ) (ns : List ℕ) → from ≤ to → AllByRecursion (λ m. to < m) ns → lesser from ns ++ at_least (to + 1) ns ≡ without_members from to ns
all_after from to ns order all =
    (λ x. none_below from ns (all_more (λ m. to < m) (λ m. from ≤ m) ns (λ m h. omega (arith, h, order)) all) x ++ at_least (to + 1) ns)
    ∙ keeps_all (λ m. nat_le (to + 1) m) ns (all_more (λ m. to < m) (λ m. nat_le (to + 1) m ≡ true) ns (λ m h. no_less (to + 1) m (omega (arith, h))) all)
    ∙ sym (keeps_all (λ m. not (is_within from to m)) ns (all_more (λ m. to < m) (λ m. not (is_within from to m) ≡ true) ns (λ m h. after from to m h) all))

outside : (from to : ℕ) (ns : List ℕ) → from ≤ to → IsStrictlySortedBy nat_cmp ns → lesser from ns ++ at_least (to + 1) ns ≡ without_members from to ns
unfolding IsStrictlySortedBy
outside from to [] order ordered = refl
outside from to (m ∷ ns) order ordered = by_place (nat_lt m from) (nat_lt to m) refl refl (outside from to ns order ordered.1) where
  by_place : (b c : Bool) → nat_lt m from ≡ b → nat_lt to m ≡ c → lesser from ns ++ at_least (to + 1) ns ≡ without_members from to ns
      → lesser from (m ∷ ns) ++ at_least (to + 1) (m ∷ ns) ≡ without_members from to (m ∷ ns)
  by_place true c low high rest =
      let parts = before from to m low order in
      (λ x. cond-true (nat_lt m from) (m ∷ lesser from ns) (lesser from ns) low x ++ cond-false (nat_le (to + 1) m) (m ∷ at_least (to + 1) ns) (at_least (to + 1) ns) parts.0 x)
      ∙ ap (λ (ms : List ℕ). m ∷ ms) rest
      ∙ sym (cond-true (not (is_within from to m)) (m ∷ without_members from to ns) (without_members from to ns) parts.1)
  by_place false true low high rest =
      let more = past from to m high in
      all_after from to (m ∷ ns) order (more, rest_above to m ns (omega (arith, more)) ordered.0)
  by_place false false low high rest =
      let parts = inside from to m low high in
      (λ x. cond-false (nat_lt m from) (m ∷ lesser from ns) (lesser from ns) low x ++ cond-false (nat_le (to + 1) m) (m ∷ at_least (to + 1) ns) (at_least (to + 1) ns) parts.0 x)
      ∙ rest
      ∙ sym (cond-false (not (is_within from to m)) (m ∷ without_members from to ns) (without_members from to ns) parts.1)

pub range_taken : (from to i j : ℕ) (ns : List ℕ) → from ≤ to → IsStrictlySortedBy nat_cmp ns → IsRankOf from ns i → IsRankOf (to + 1) ns j
    → remove_range ns i j ≡ without_members from to ns
range_taken from to i j ns order ordered low high = (λ x. front_is from i ns low x ++ rest_is (to + 1) j ns high x) ∙ outside from to ns order ordered
