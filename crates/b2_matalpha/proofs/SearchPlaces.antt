-- The places of a search, from an index on.
use Rattle.std.proofs.Common.{◌≡◌, ◌<◌, ◌≤◌, ◌+◌, ◌-◌, ◌%◌, ◌==◌, ◌&&◌, ◌∙◌, ℕ, zero, suc, min, Bool, true, false, cond, if◌then◌else◌, List, [], ◌∷◌, ◌++◌, length, map, refl, sym, ap, subst, arith, inl, inr, ⊎_elim, ne_eqb, zero-add}
use Rattle.std.proofs.Math.Nat.{add-mod_right, mod-add-mod, mod-eq_of_lt}
use Rattle.std.specs.List.{All, AllByRecursion, Contains, filter, range_with_len}
use Rattle.std.specs.List.Sorted.{IsStrictlyIncreasing}
use Rattle.std.proofs.lemmas.List.{get_or-map, length-map, map-id}
use Rattle.std.proofs.lemmas.List.FromFn.{length-range_with_len, get_or-range_with_len, map-range_with_len_more}
use Rattle.std.proofs.lemmas.Bool.{cases_lt}
use Rattle.std.proofs.lemmas.List.Elements.{All-from_recursion}
use Rattle.std.proofs.lemmas.List.Kept.{IsStrictlyIncreasing-filter}
use Rattle.b2_alpha.specs.declared.relation.Rel.{Rel}
use Rattle.b2_matalpha.specs.Searches.{is_found, stands_at, found_places}
use Rattle.b2_matalpha.proofs.Orders.{Has, contains_from}

-- the places that are found from an index on
abbrev pub found_from : List ℕ → Rel → List ℕ → ℕ → ℕ → List ℕ
found_from of rel want step index = map (λ k. k + 1) (filter (is_found of rel want step) (range_with_len index (length of - index)))

shown : (t : Bool) (index : ℕ) (rest : List ℕ) → map (λ k. k + 1) (cond t (index ∷ rest) rest) ≡ (if t then (index + 1) ∷ map (λ k. k + 1) rest else map (λ k. k + 1) rest)
shown true index rest = refl
shown false index rest = refl

-- the index is the first, or it isn't found
pub found_here : (of : List ℕ) (rel : Rel) (want : List ℕ) (step index : ℕ) → index < length of
    → found_from of rel want step index ≡ (if is_found of rel want step index then (index + 1) ∷ found_from of rel want step (index + 1) else found_from of rel want step (index + 1))
found_here of rel want step index low =
    let longer : length of - index ≡ suc (length of - (index + 1)) = omega arith in
    ap (λ (n : ℕ). map (λ k. k + 1) (filter (is_found of rel want step) (range_with_len index n))) longer
    ∙ shown (is_found of rel want step index) index (filter (is_found of rel want step) (range_with_len (index + 1) (length of - (index + 1))))

pub none_left : (of : List ℕ) (rel : Rel) (want : List ℕ) (step index : ℕ) → length of ≤ index → found_from of rel want step index ≡ []
none_left of rel want step index past =
    let none : length of - index ≡ 0 = omega arith in
    ap (λ (n : ℕ). map (λ k. k + 1) (filter (is_found of rel want step) (range_with_len index n))) none

not_found_if : (of : List ℕ) (rel : Rel) (want : List ℕ) (step index : ℕ) → index < length of → is_found of rel want step index ≡ false
    → found_from of rel want step index ≡ found_from of rel want step (index + 1)
not_found_if of rel want step index low test =
    found_here of rel want step index low
    ∙ ap (λ (t : Bool). if t then (index + 1) ∷ found_from of rel want step (index + 1) else found_from of rel want step (index + 1)) test

-- the indices before the next one of the search
none_between : (of : List ℕ) (rel : Rel) (want : List ℕ) (step index first count : ℕ) → index % step ≡ 0 → index < first → first + count ≤ index + step → first + count ≤ length of
    → found_from of rel want step first ≡ found_from of rel want step (first + count)
none_between of rel want step index first zero at low high within = let same : first ≡ first + zero = omega arith in ap (found_from of rel want step) same
none_between of rel want step index first (suc count) at low high within =
    let past = first - index in
    let apart : first ≡ index + past = omega (arith, low) in
    let rest : first % step ≡ past = ap (λ (n : ℕ). n % step) apart ∙ sym (mod-add-mod index step past) ∙ ap (λ (n : ℕ). (n + past) % step) at ∙ ap (λ (n : ℕ). n % step) (zero-add past) ∙ mod-eq_of_lt (let less : past < step = omega (arith, low, high) in less) in
    let other : (first % step == 0) ≡ false = ne_eqb (first % step) 0 (λ e. omega (arith, rest, low, e)) in
    let next : first + 1 + count ≡ first + suc count = omega arith in
    not_found_if of rel want step first (omega (arith, within)) (ap (λ (b : Bool). b && stands_at of rel want first) other)
    ∙ none_between of rel want step index (first + 1) count at (omega (arith, low)) (omega (arith, high)) (omega (arith, within))
    ∙ ap (found_from of rel want step) next

-- from an index of the search to the next, or to the end of the bytes
to_next : (of : List ℕ) (rel : Rel) (want : List ℕ) (step index next : ℕ) → 0 < step → index % step ≡ 0 → index < length of → next ≡ index + min step (length of - index)
    → found_from of rel want step (index + 1) ≡ found_from of rel want step next
to_next of rel want step index next some at low is =
    let same : index + 1 + (next - (index + 1)) ≡ next = omega (arith, some, low, is) in
    none_between of rel want step index (index + 1) (next - (index + 1)) at (omega arith) (omega (arith, some, low, is)) (omega (arith, some, low, is)) ∙ ap (found_from of rel want step) same

chosen : (of : List ℕ) (rel : Rel) (want : List ℕ) (step index : ℕ) → index % step ≡ 0 → is_found of rel want step index ≡ stands_at of rel want index
chosen of rel want step index at = ap (λ (n : ℕ). (n == 0) && stands_at of rel want index) at

pub found_if : (of : List ℕ) (rel : Rel) (want : List ℕ) (step index next : ℕ) → 0 < step → index % step ≡ 0 → index < length of → next ≡ index + min step (length of - index) → stands_at of rel want index ≡ true
    → found_from of rel want step index ≡ (index + 1) ∷ found_from of rel want step next
found_if of rel want step index next some at low is test =
    found_here of rel want step index low
    ∙ ap (λ (t : Bool). if t then (index + 1) ∷ found_from of rel want step (index + 1) else found_from of rel want step (index + 1)) (chosen of rel want step index at ∙ test)
    ∙ ap (λ (places : List ℕ). (index + 1) ∷ places) (to_next of rel want step index next some at low is)

pub none_if : (of : List ℕ) (rel : Rel) (want : List ℕ) (step index next : ℕ) → 0 < step → index % step ≡ 0 → index < length of → next ≡ index + min step (length of - index) → stands_at of rel want index ≡ false
    → found_from of rel want step index ≡ found_from of rel want step next
none_if of rel want step index next some at low is test =
    not_found_if of rel want step index low (chosen of rel want step index at ∙ test) ∙ to_next of rel want step index next some at low is

-- the next index is one of the search, where it isn't the end of the bytes
pub next_at : (of : List ℕ) (step index next : ℕ) → index % step ≡ 0 → next ≡ index + min step (length of - index) → next < length of → next % step ≡ 0
next_at of step index next at is low =
    let all : next ≡ index + step = omega (arith, is, low) in
    ap (λ (n : ℕ). n % step) all ∙ add-mod_right index step ∙ at

range_rises : (a n : ℕ) → IsStrictlyIncreasing (range_with_len a n)
range_rises a n k low =
    let len = length-range_with_len a n in
    omega (arith, get_or-range_with_len a n k 0 (omega arith), get_or-range_with_len a n (k + 1) 0 (omega arith))

rises_by_one : (xs : List ℕ) → IsStrictlyIncreasing xs → IsStrictlyIncreasing (map (λ k. k + 1) xs)
rises_by_one xs up k low =
    let len = length-map xs (λ (n : ℕ). n + 1) in
    omega (arith, up k (omega arith), get_or-map (λ (n : ℕ). n + 1) xs k 0 0 (omega arith), get_or-map (λ (n : ℕ). n + 1) xs (k + 1) 0 0 (omega arith))

pub found_rise : (of : List ℕ) (rel : Rel) (want : List ℕ) (step : ℕ) → IsStrictlyIncreasing (found_places of rel want step)
found_rise of rel want step =
    rises_by_one (filter (is_found of rel want step) (range_with_len 0 (length of))) (IsStrictlyIncreasing-filter (is_found of rel want step) (range_with_len 0 (length of)) (range_rises 0 (length of)))

-- one number more
pub range_more : (a n j : ℕ) → a + n ≡ j → range_with_len a (n + 1) ≡ range_with_len a n ++ j ∷ []
range_more a n j next =
    sym (map-id (range_with_len a (n + 1))) ∙ map-range_with_len_more (λ (k : ℕ). k) a n j next ∙ ap (λ (l : List ℕ). l ++ j ∷ []) (map-id (range_with_len a n))

-- each place that is found is one that matches
one_more : (p : ℕ → Bool) (x : ℕ) (t : Bool) (rest : List ℕ) → p x ≡ t → AllByRecursion (λ k. (0 < k) × (p (k - 1) ≡ true)) (map (λ k. k + 1) rest) → AllByRecursion (λ k. (0 < k) × (p (k - 1) ≡ true)) (map (λ k. k + 1) (cond t (x ∷ rest) rest))
one_more p x true rest test others = let back : x + 1 - 1 ≡ x = omega arith in ((omega arith, ap p back ∙ test), others)
one_more p x false rest test others = others

each_matches : (p : ℕ → Bool) (xs : List ℕ) → AllByRecursion (λ k. (0 < k) × (p (k - 1) ≡ true)) (map (λ k. k + 1) (filter p xs))
each_matches p [] = tt
each_matches p (x ∷ xs) = one_more p x (p x) (filter p xs) refl (each_matches p xs)

pub found_match : (of : List ℕ) (rel : Rel) (want : List ℕ) (step : ℕ) → All (λ place. (0 < place) × (is_found of rel want step (place - 1) ≡ true)) (found_places of rel want step)
found_match of rel want step =
    All-from_recursion (λ place. (0 < place) × (is_found of rel want step (place - 1) ≡ true)) (found_places of rel want step) (each_matches (is_found of rel want step) (range_with_len 0 (length of)))

-- each place that matches is found
first_has : (x : ℕ) (t : Bool) (rest : List ℕ) → t ≡ true → Has (map (λ k. k + 1) (cond t (x ∷ rest) rest)) (x + 1)
first_has x true rest test = inl refl
first_has x false rest test = cc

rest_has : (x z : ℕ) (t : Bool) (rest : List ℕ) → Has (map (λ k. k + 1) rest) z → Has (map (λ k. k + 1) (cond t (x ∷ rest) rest)) z
rest_has x z true rest has = inr has
rest_has x z false rest has = has

match_has : (p : ℕ → Bool) (a n index : ℕ) → a ≤ index → index < a + n → p index ≡ true → Has (map (λ k. k + 1) (filter p (range_with_len a n))) (index + 1)
match_has p a zero index low high test = absurd (omega arith)
match_has p a (suc n) index low high test =
    ⊎_elim
    (λ (later : a < index). rest_has a (index + 1) (p a) (filter p (range_with_len (a + 1) n)) (match_has p (a + 1) n index (omega arith) (omega arith) test))
    (λ (here : index ≤ a).
    let same : a ≡ index = omega arith in
    subst (λ (i : ℕ). Has (map (λ k. k + 1) (filter p (range_with_len a (suc n)))) (i + 1)) same (first_has a (p a) (filter p (range_with_len (a + 1) n)) (ap p same ∙ test)))
    (cases_lt a index)

pub match_found : (of : List ℕ) (rel : Rel) (want : List ℕ) (step index : ℕ) → index < length of → is_found of rel want step index ≡ true → Contains (found_places of rel want step) (index + 1)
match_found of rel want step index low test =
    contains_from (found_places of rel want step) (index + 1) (match_has (is_found of rel want step) 0 (length of) index (omega arith) (omega arith) test)
