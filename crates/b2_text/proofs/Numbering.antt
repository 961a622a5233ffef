-- The places of lines by their numbers, as lines are put in and taken out, and the line at the place of a number.
use Rattle.std.proofs.Common.{All, ◌≡◌, ◌≢◌, ℕ, zero, suc, ◌+◌, ◌-◌, ◌<◌, ◌≤◌, ◌==◌, ◌⊎◌, Bool, true, false, cond, List, [], ◌∷◌, ◌++◌, length, take, drop, get_or, set, replicate, refl, sym, ap, subst, ◌∙◌, inl, inr, arith, nat_cmp, Less}
use Rattle.std.specs.List.{AllByRecursion, remove_range}
use Rattle.std.specs.List.Sorted.{IsStrictlySortedBy}
use Rattle.std.specs.Map.{keys_of}
use Rattle.std.proofs.lemmas.Bool.{cases_order}
use Rattle.std.proofs.lemmas.Bool.Decides.{nat_tests}
use Rattle.std.proofs.lemmas.List.{drop-drop, drop_more, get_or-drop, get_or-set_other, get_or-take, get_or_default, length-append, length-drop, length-replicate, length-take, length-take-le}
use Rattle.std.proofs.lemmas.List.Elements.{All-get_or}
use Rattle.std.proofs.lemmas.Grind.{get_or-set_at}
use Rattle.b2_text.specs.Program.{Lines, size_of}
use Rattle.b2_text.specs.Blocks.{IsAscending, IsLaid, IsPlaceOf, line_placed, lines_laid, no_place, number_at}
use Rattle.b2_text.specs.Numbered.{IsNumbered, forgotten, numbered, place_among}
use Rattle.b2_text.specs.declared.block.LinePlace.{LinePlace}
use Rattle.b2_text.proofs.Blocks.{count_laid, length_laid}
use Rattle.b2_text.proofs.AtNumbers.{key_at, length_keys}
use Rattle.b2_text.proofs.Laid.{line_is}

-- tests of two numbers
same : (m n : ℕ) → (m == n) ≡ true → m ≡ n
same m n h = grind (arith, nat_tests)

itself : (m n : ℕ) → m ≡ n → (m == n) ≡ true
itself m n h = grind (arith, nat_tests)

other_one : (m n : ℕ) → (m == n) ≡ false → m ≢ n
other_one m n h = λ e. cc_of (m == n) h (itself m n e) where
  cc_of : (b : Bool) → b ≡ false → b ≡ true → ⊥
  cc_of b h g = cc

less_is_other : (m n : ℕ) → nat_cmp m n ≡ Less → (m == n) ≡ true → ⊥
less_is_other m n h g = grind (arith, nat_tests)

-- one place written into a table
one_by : (b : Bool) (t : List ℕ) (k v m : ℕ) → (m == k) ≡ b → k < length t → get_or (set t k v) m 0 ≡ cond b v (get_or t m 0)
one_by true t k v m is inside = get_or-set_at t k m v 0 (same m k is) inside
one_by false t k v m is inside = get_or-set_other t k m v 0 (other_one m k is)

one : (t : List ℕ) (k v m : ℕ) → k < length t → get_or (set t k v) m 0 ≡ cond (m == k) v (get_or t m 0)
one t k v m inside = one_by (m == k) t k v m refl inside

-- a place written before wins only where none is written after
over_by : (b : Bool) (x v w m : ℕ) (ls : Lines) → place_among (place_among x (v + 1) m ls) (w + 1) m ls ≡ place_among x (w + 1) m ls
    → place_among (cond b w (place_among (cond b v x) (v + 1) m ls)) (w + 1) m ls ≡ place_among (cond b w x) (w + 1) m ls
over_by true x v w m ls h = refl
over_by false x v w m ls h = h

overridden : (x v w m : ℕ) (ls : Lines) → place_among (place_among x v m ls) w m ls ≡ place_among x w m ls
overridden x v w m [] = refl
overridden x v w m (l ∷ ls) = over_by (m == l.0) x v w m ls (overridden x (v + 1) (w + 1) m ls)

-- a line put in
put_by : (b : Bool) (x v w m : ℕ) (ls : Lines) → v ≡ w
    → place_among (cond b w (place_among x v m ls)) (w + 1) m ls ≡ place_among (cond b v x) (v + 1) m ls
put_by true x v w m ls h = (λ i. place_among (sym h i) (sym h i + 1) m ls)
put_by false x v w m ls h = overridden x v (w + 1) m ls ∙ (λ i. place_among x (sym h i + 1) m ls)

put_among : (i x v w n m : ℕ) (a : List ℕ) (ls : Lines) → w ≡ v + i → i ≤ length ls
    → place_among (place_among x v m ls) w m (drop i (take i ls ++ ((n, a) ∷ drop i ls))) ≡ place_among x v m (take i ls ++ ((n, a) ∷ drop i ls))
put_among zero x v w n m a ls is inside = put_by (m == n) x v w m ls (omega (arith, is))
put_among (suc i) x v w n m a [] is inside = absurd (omega (arith, inside))
put_among (suc i) x v w n m a (l ∷ ls) is inside = put_among i (cond (m == l.0) v x) (v + 1) w n m a ls (omega (arith, is)) (omega (arith, inside))

-- a line in place of another of its number
over_among : (i x v n m : ℕ) (a : List ℕ) (ls : Lines) (d : ℕ × List ℕ) → i < length ls → (get_or ls i d).0 ≡ n
    → place_among x v m ls ≡ place_among x v m (take i ls ++ ((n, a) ∷ drop (suc i) ls))
over_among i x v n m a [] d inside is = absurd (omega (arith, inside))
over_among zero x v n m a (l ∷ ls) d inside is = ap (λ (k : ℕ). place_among (cond (m == k) v x) (v + 1) m ls) is
over_among (suc i) x v n m a (l ∷ ls) d inside is = over_among i (cond (m == l.0) v x) (v + 1) n m a ls d (omega (arith, inside)) is

-- lines taken out
abbrev Above : ℕ → Lines → Type 0
Above m ls = AllByRecursion (λ y. nat_cmp m y ≡ Less) (keys_of ls)

stay_by : (b : Bool) (m : ℕ) (ls : Lines) → forgotten 0 m ls ≡ 0 → forgotten (cond b 0 0) m ls ≡ 0
stay_by true m ls h = h
stay_by false m ls h = h

gone_stay : (m : ℕ) (ls : Lines) → forgotten 0 m ls ≡ 0
gone_stay m [] = refl
gone_stay m (l ∷ ls) = stay_by (m == l.0) m ls (gone_stay m ls)

-- what stood before the lines is nothing, or the number is not theirs
abbrev Apart : ℕ → ℕ → Lines → Type 0
Apart x m ls = (x ≡ 0) ⊎ Above m ls

none_before : (x m : ℕ) (l : ℕ × List ℕ) (ls : Lines) → Apart x m (l ∷ ls) → (m == l.0) ≡ true → x ≡ 0
none_before x m l ls (inl h) is = h
none_before x m l ls (inr h) is = absurd (less_is_other m l.0 h.0 is)

past_one : (x m : ℕ) (l : ℕ × List ℕ) (ls : Lines) → Apart x m (l ∷ ls) → Apart x m ls
past_one x m l ls (inl h) = inl h
past_one x m l ls (inr h) = inr h.1

cut_by : (b : Bool) (k x v w m : ℕ) (l : ℕ × List ℕ) (ls : Lines) → (m == l.0) ≡ b → Apart x m (l ∷ ls)
    → place_among (forgotten (place_among x (v + 1) m ls) m (take k ls)) w m (drop k ls) ≡ place_among x w m (drop k ls)
    → place_among (forgotten (cond b 0 (place_among (cond b v x) (v + 1) m ls)) m (take k ls)) w m (drop k ls) ≡ place_among x w m (drop k ls)
cut_by true k x v w m l ls is h rest =
    ap (λ (y : ℕ). place_among y w m (drop k ls)) (gone_stay m (take k ls) ∙ sym (none_before x m l ls h is))
cut_by false k x v w m l ls is h rest = rest

front_cut : (k x v w m : ℕ) (ls : Lines) → Apart x m ls
    → place_among (forgotten (place_among x v m ls) m (take k ls)) w m (drop k ls) ≡ place_among x w m (drop k ls)
front_cut zero x v w m ls h = overridden x v w m ls
front_cut (suc k) x v w m [] h = refl
front_cut (suc k) x v w m (l ∷ ls) h = cut_by (m == l.0) k x v w m l ls refl h (front_cut k x (v + 1) w m ls (past_one x m l ls h))

after_one : (b : Bool) (x v m : ℕ) (l : ℕ × List ℕ) (ls : Lines) → (m == l.0) ≡ b → AllByRecursion (λ y. nat_cmp l.0 y ≡ Less) (keys_of ls) → Apart x m (l ∷ ls)
    → Apart (cond b v x) m ls
after_one true x v m l ls is above h = inr (subst (λ (k : ℕ). AllByRecursion (λ y. nat_cmp k y ≡ Less) (keys_of ls)) (sym (same m l.0 is)) above)
after_one false x v m l ls is above h = past_one x m l ls h

cut_among : (i k x v w m : ℕ) (ls : Lines) → w ≡ v + i → i ≤ length ls → IsStrictlySortedBy nat_cmp (keys_of ls) → Apart x m ls
    → place_among (forgotten (place_among x v m ls) m (take k (drop i ls))) w m (drop i (take i ls ++ drop k (drop i ls)))
    ≡ place_among x v m (take i ls ++ drop k (drop i ls))
unfolding IsStrictlySortedBy
cut_among zero k x v w m ls is inside ordered h =
    let from : w ≡ v = omega (arith, is) in
    front_cut k x v w m ls h ∙ ap (λ (u : ℕ). place_among x u m (drop k ls)) from
cut_among (suc i) k x v w m [] is inside ordered h = absurd (omega (arith, inside))
cut_among (suc i) k x v w m (l ∷ ls) is inside ordered h =
    cut_among i k (cond (m == l.0) v x) (v + 1) w m ls (omega (arith, is)) (omega (arith, inside)) ordered.1
    (after_one (m == l.0) x v m l ls refl ordered.0 h)

-- the table of lines among which one was put
pub numbered_put : (i n : ℕ) (a : List ℕ) (ls ms : Lines) (table new : List ℕ) → IsNumbered table ls → i ≤ length ls → ms ≡ take i ls ++ ((n, a) ∷ drop i ls)
    → length new ≡ length table → ((m : ℕ) → get_or new m 0 ≡ place_among (get_or table m 0) (i + 1) m (drop i ms)) → IsNumbered new ms
numbered_put i n a ls ms table new kept inside is long places = record {
  long = long ∙ kept.long;
  found = λ m.
      places m
      ∙ (λ x. place_among (kept.found m x) (i + 1) m (drop i (is x)))
      ∙ put_among i 0 1 (i + 1) n m a ls (omega arith) inside
      ∙ ap (numbered m) (sym is);
}

-- of which one gave way
pub numbered_over : (i n : ℕ) (a : List ℕ) (ls ms : Lines) (table : List ℕ) (d : ℕ × List ℕ) → IsNumbered table ls → i < length ls → (get_or ls i d).0 ≡ n
    → ms ≡ take i ls ++ ((n, a) ∷ drop (suc i) ls) → IsNumbered table ms
numbered_over i n a ls ms table d kept inside number is = record {
  long = kept.long;
  found = λ m. kept.found m ∙ over_among i 0 1 n m a ls d inside number ∙ ap (numbered m) (sym is);
}

-- and of which some went
pub numbered_cut : (i k : ℕ) (ls ms : Lines) (table less new : List ℕ) → IsNumbered table ls → IsStrictlySortedBy nat_cmp (keys_of ls) → i ≤ length ls
    → ms ≡ take i ls ++ drop k (drop i ls) → length less ≡ length table → ((m : ℕ) → get_or less m 0 ≡ forgotten (get_or table m 0) m (take k (drop i ls)))
    → length new ≡ length less → ((m : ℕ) → get_or new m 0 ≡ place_among (get_or less m 0) (i + 1) m (drop i ms)) → IsNumbered new ms
numbered_cut i k ls ms table less new kept ordered inside is shorter gone long places = record {
  long = long ∙ shorter ∙ kept.long;
  found = λ m.
      places m
      ∙ (λ x. place_among ((gone m ∙ ap (λ (y : ℕ). forgotten y m (take k (drop i ls))) (kept.found m)) x) (i + 1) m (drop i (is x)))
      ∙ cut_among i k 0 1 (i + 1) m ls (omega arith) inside ordered (inl refl)
      ∙ ap (numbered m) (sym is);
}

-- no lines
zeros : (k m : ℕ) → get_or (replicate {A = ℕ} k 0) m 0 ≡ 0
zeros zero m = refl
zeros (suc k) zero = refl
zeros (suc k) (suc m) = zeros k m

pub numbered_none : (k : ℕ) (table block : List ℕ) (places : List LinePlace) → k ≡ 10000 → table ≡ replicate k 0 → places ≡ [] → IsNumbered table (lines_laid block places)
numbered_none k table block places long is none = record {
  long = ap (λ (t : List ℕ). length t) is ∙ length-replicate k 0 ∙ long;
  found = λ m. ap (λ (t : List ℕ). get_or t m 0) is ∙ zeros k m ∙ ap (λ (ps : List LinePlace). numbered m (lines_laid block ps)) (sym none);
}

-- one step of writing places down, and of forgetting them
next_line : (block : List ℕ) (places : List LinePlace) (i : ℕ) → i < length places → drop i (lines_laid block places) ≡ line_placed block (get_or places i no_place) ∷ drop (i + 1) (lines_laid block places)
next_line block places i inside =
    let ls = lines_laid block places in
    let none : ℕ × List ℕ = (0, []) in
    let count = count_laid block places in
    drop_more ls i none (omega (arith, count, inside))
    ∙ ap (λ (l : ℕ × List ℕ). l ∷ drop (i + 1) ls) (line_is block places i none inside)

pub number_step : (block : List ℕ) (places : List LinePlace) (i m : ℕ) (table next : List ℕ) (s : LinePlace) → i < length places → s ≡ get_or places i s
    → s.number < length table → next ≡ set table s.number (i + 1)
    → place_among (get_or next m 0) (i + 1 + 1) m (drop (i + 1) (lines_laid block places)) ≡ place_among (get_or table m 0) (i + 1) m (drop i (lines_laid block places))
number_step block places i m table next s inside read small is =
    let ls = lines_laid block places in
    let here : s ≡ get_or places i no_place = read ∙ get_or_default places i s no_place inside in
    (λ x. place_among ((ap (λ (t : List ℕ). get_or t m 0) is ∙ one table s.number (i + 1) m small) x) (i + 1 + 1) m (drop (i + 1) ls))
    ∙ ap (λ (p : LinePlace). place_among (get_or table m 0) (i + 1) m (line_placed block p ∷ drop (i + 1) ls)) here
    ∙ ap (λ (ks : Lines). place_among (get_or table m 0) (i + 1) m ks) (sym (next_line block places i inside))

pub forget_step : (block : List ℕ) (places : List LinePlace) (i m : ℕ) (table next : List ℕ) (s : LinePlace) → i < length places → s ≡ get_or places i s
    → s.number < length table → next ≡ set table s.number 0
    → forgotten (get_or next m 0) m (drop (i + 1) (lines_laid block places)) ≡ forgotten (get_or table m 0) m (drop i (lines_laid block places))
forget_step block places i m table next s inside read small is =
    let ls = lines_laid block places in
    let here : s ≡ get_or places i no_place = read ∙ get_or_default places i s no_place inside in
    ap (λ (y : ℕ). forgotten y m (drop (i + 1) ls)) (ap (λ (t : List ℕ). get_or t m 0) is ∙ one table s.number 0 m small)
    ∙ ap (λ (p : LinePlace). forgotten (get_or table m 0) m (line_placed block p ∷ drop (i + 1) ls)) here
    ∙ ap (λ (ks : Lines). forgotten (get_or table m 0) m ks) (sym (next_line block places i inside))

-- what a place says: there stands the line of the number, or it is what stood before all lines, and none has the number
record Stands (n from r : ℕ) (ls : Lines) : Type 0 where
  k : ℕ
  inside : k < length ls
  is : (get_or ls k (0, [])).0 ≡ n
  at_it : r ≡ from + k

record Absent (n other r : ℕ) (ls : Lines) : Type 0 where
  is_other : r ≡ other
  none : (k : ℕ) → k < length ls → (get_or ls k (0, [])).0 ≢ n

looked_by : (b : Bool) (other from n : ℕ) (l : ℕ × List ℕ) (ls : Lines) (r : ℕ) → (n == l.0) ≡ b → Stands n (from + 1) r ls ⊎ Absent n (cond b from other) r ls
    → Stands n from r (l ∷ ls) ⊎ Absent n other r (l ∷ ls)
looked_by b other from n l ls r is (inl s) = inl (record { k = suc s.k; inside = omega (arith, s.inside); is = s.is; at_it = omega (arith, s.at_it) })
looked_by true other from n l ls r is (inr a) = inl (record { k = 0; inside = omega arith; is = sym (same n l.0 is); at_it = omega (arith, a.is_other) })
looked_by false other from n l ls r is (inr a) = inr (record {
  is_other = a.is_other;
  none = λ k inside. no_one k inside;
}) where
  no_one : (k : ℕ) → k < length (l ∷ ls) → (get_or (l ∷ ls) k (0, [])).0 ≢ n
  no_one zero inside = λ e. other_one n l.0 is (sym e)
  no_one (suc k) inside = a.none k (omega (arith, inside))

looked : (other from n : ℕ) (ls : Lines) → Stands n from (place_among other from n ls) ls ⊎ Absent n other (place_among other from n ls) ls
looked other from n [] = inr (record { is_other = refl; none = λ k inside. absurd (omega (arith, inside)) })
looked other from n (l ∷ ls) = looked_by (n == l.0) other from n l ls (place_among (cond (n == l.0) from other) (from + 1) n ls) refl (looked (cond (n == l.0) from other) (from + 1) n ls)

-- the number of a line is that of its place
pub number_is : (block : List ℕ) (places : List LinePlace) (k : ℕ) → k < length places → (get_or (lines_laid block places) k (0, [])).0 ≡ number_at places k
number_is block places k inside = ap (λ (l : ℕ × List ℕ). l.0) (line_is block places k (0, []) inside)

-- the line at a place that is not 0
pub record IsSought (n p : ℕ) (places : List LinePlace) : Type 0 where
  pub inside : p - 1 < length places
  pub number : number_at places (p - 1) ≡ n

pub sought : (block : List ℕ) (places : List LinePlace) (table : List ℕ) (n p : ℕ) → IsNumbered table (lines_laid block places) → p ≡ get_or table n 0 → 0 < p → IsSought n p places
sought block places table n p kept is some = by_look (looked 0 1 n (lines_laid block places)) where
  by_look : Stands n 1 (numbered n (lines_laid block places)) (lines_laid block places) ⊎ Absent n 0 (numbered n (lines_laid block places)) (lines_laid block places) → IsSought n p places
  by_look (inl s) =
      let count = count_laid block places in
      let found = kept.found n in
      let here : p - 1 ≡ s.k = omega (arith, is, found, s.at_it) in
      let there : s.k < length places = omega (arith, count, s.inside) in
      record { inside = omega (arith, here, there); number = ap (number_at places) here ∙ sym (number_is block places s.k there) ∙ s.is }
  by_look (inr a) = let found = kept.found n in absurd (omega (arith, is, found, a.is_other, some))

pub not_sought : (block : List ℕ) (places : List LinePlace) (table : List ℕ) (n p : ℕ) → IsNumbered table (lines_laid block places) → p ≡ get_or table n 0 → p ≡ 0
    → (k : ℕ) → k < length places → number_at places k ≢ n
not_sought block places table n p kept is none = by_look (looked 0 1 n (lines_laid block places)) where
  by_look : Stands n 1 (numbered n (lines_laid block places)) (lines_laid block places) ⊎ Absent n 0 (numbered n (lines_laid block places)) (lines_laid block places)
      → (k : ℕ) → k < length places → number_at places k ≢ n
  by_look (inl s) k inside = let found = kept.found n in absurd (omega (arith, is, found, s.at_it, none))
  by_look (inr a) k inside = λ e. (let count = count_laid block places in a.none k (omega (arith, count, inside)) (number_is block places k inside ∙ e))

-- it is the place of its number, and the next one that after it
pub place_at : (n i : ℕ) (places : List LinePlace) → IsAscending places → i < length places → number_at places i ≡ n → IsPlaceOf n places i
place_at n i places ordered inside is = record {
  within = omega (arith, inside);
  below = λ k less. (let o = ordered k i less inside in omega (arith, o, is));
  above = λ k more within. elim (cases_order i k) [
    | inl e ↦ omega (arith, ap (number_at places) e, is)
    | inr unequal ↦ elim unequal [
      | inl before ↦ (let o = ordered i k before within in omega (arith, o, is))
      | inr after ↦ absurd (omega (arith, more, after))
    ]
  ];
}

pub place_past : (n p : ℕ) (places : List LinePlace) → IsAscending places → 0 < p → IsSought n p places → IsPlaceOf (n + 1) places p
place_past n p places ordered some h = record {
  within = omega (arith, h.inside);
  below = λ k less. elim (cases_order k (p - 1)) [
    | inl e ↦ omega (arith, ap (number_at places) e, h.number)
    | inr unequal ↦ elim unequal [
      | inl before ↦ (let o = ordered k (p - 1) before h.inside in omega (arith, o, h.number))
      | inr after ↦ absurd (omega (arith, less, after))
    ]
  ];
  above = λ k more within. (let o = ordered (p - 1) k (omega (arith, more, some)) within in omega (arith, o, h.number));
}

-- numbers of lines stand in the table, and lines are few
pub numbers_within : (block : List ℕ) (places : List LinePlace) → All (λ n. n ≤ 9999) (keys_of (lines_laid block places)) → (k : ℕ) → k < length places → number_at places k < 10000
numbers_within block places all k inside =
    let count = length_keys block places in
    let here = key_at block places k inside in
    let few = All-get_or (λ m. m ≤ 9999) (keys_of (lines_laid block places)) k 0 (omega (arith, count, inside)) all in
    omega (arith, here, few)

count_least : (ls : Lines) → length ls ≤ size_of ls
count_least [] = omega arith
count_least (l ∷ ls) = let rest = count_least ls in omega (arith, rest)

pub few_places : (block : List ℕ) (places : List LinePlace) → IsLaid block places → length block ≤ 65535 → length places ≤ 65535
few_places block places laid small =
    let count = count_laid block places in
    let least = count_least (lines_laid block places) in
    let whole = length_laid block places laid in
    omega (arith, count, least, whole, small)

-- those that go stand in the table too
pub gone_within : (block : List ℕ) (places gone : List LinePlace) (i k : ℕ) → gone ≡ take k (drop i places) → All (λ n. n ≤ 9999) (keys_of (lines_laid block places))
    → (m : ℕ) → m < length gone → number_at gone m < 10000
gone_within block places gone i k is all m inside =
    let long = ap (λ (ps : List LinePlace). length ps) is ∙ length-take k (drop i places) in
    let rest = length-drop i places in
    let short : m < k = omega (arith, long, inside) in
    let there : i + m < length places = omega (arith, long, rest, inside) in
    let same = ap (λ (ps : List LinePlace). number_at ps m) is ∙ ap (λ (s : LinePlace). s.number) (get_or-take k (drop i places) m no_place short ∙ get_or-drop i places m no_place) in
    let few = numbers_within block places all (i + m) there in
    omega (arith, same, few)

laid_from : (block : List ℕ) (i : ℕ) (places : List LinePlace) → lines_laid block (drop i places) ≡ drop i (lines_laid block places)
laid_from block zero places = refl
laid_from block (suc i) [] = refl
laid_from block (suc i) (s ∷ ss) = laid_from block i ss

laid_to : (block : List ℕ) (k : ℕ) (places : List LinePlace) → lines_laid block (take k places) ≡ take k (lines_laid block places)
laid_to block zero places = refl
laid_to block (suc k) [] = refl
laid_to block (suc k) (s ∷ ss) = ap (λ (ls : Lines). line_placed block s ∷ ls) (laid_to block k ss)

pub laid_part : (block : List ℕ) (i k : ℕ) (places gone : List LinePlace) → gone ≡ take k (drop i places) → lines_laid block gone ≡ take k (drop i (lines_laid block places))
laid_part block i k places gone is = ap (lines_laid block) is ∙ laid_to block k (drop i places) ∙ ap (take k) (laid_from block i places)

-- lines of which some went
pub cut_is : (i j : ℕ) (ls ms : Lines) → i ≤ j → ms ≡ remove_range ls i j → ms ≡ take i ls ++ drop (j - i) (drop i ls)
cut_is i j ls ms order is =
    let sum : j ≡ i + (j - i) = omega (arith, order) in
    is ∙ ap (λ (k : ℕ). take i ls ++ drop k ls) sum ∙ ap (λ (ks : Lines). take i ls ++ ks) (sym (drop-drop (j - i) i ls))

pub record Left (i : ℕ) (ls ms : Lines) : Type 0 where
  pub within : i ≤ length ms
  pub fewer : length ms ≤ length ls

pub left_count : (i j : ℕ) (ls ms : Lines) → i ≤ j → j ≤ length ls → ms ≡ remove_range ls i j → Left i ls ms
left_count i j ls ms order inside is =
    let long = ap (λ (ks : Lines). length ks) is ∙ length-append (take i ls) (drop j ls) in
    let front = length-take-le i ls (omega (arith, order, inside)) in
    let back = length-drop j ls in
    record { within = omega (arith, long, front); fewer = omega (arith, long, front, back, order, inside) }
