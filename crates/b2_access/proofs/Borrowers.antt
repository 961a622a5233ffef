-- How often a partition is in a list of those who stand inside a text, once one has entered, left or given back; and the partitions that a
-- mask marks.
use Rattle.std.specs.Prelude.{◌≡◌, ◌≢◌, ◌≤◌, ℕ, suc, zero, ◌+◌, ◌-◌, ◌==◌, ◌||◌, ◌&&◌, Bool, true, false, not, List, [], ◌∷◌, ◌++◌, filter, if◌then◌else◌, refl}
use Rattle.std.specs.Cmp.{unsigned_Decides}
use Rattle.std.specs.List.{list_any}
use Rattle.std.proofs.Common.{arith, sym, ap, ◌∙◌}
use Rattle.std.proofs.lemmas.Bool.{false≢true}
use Rattle.std.proofs.lemmas.Bool.Decides.{nat_tests}
use Rattle.b2_access.specs.Borrowers.{all_partitions, homes_marked, is_inside, is_marked, marked_among, times, without, without_last}

pub times_without : (p : ℕ) (xs : List ℕ) → times p (without p xs) ≡ 0
times_without p [] = refl
times_without p (x ∷ xs) = grind (arith, nat_tests, times_without p xs)

pub times_without_other : (p q : ℕ) → q ≢ p → (xs : List ℕ) → times q (without p xs) ≡ times q xs
times_without_other p q apart [] = refl
times_without_other p q apart (x ∷ xs) = grind (arith, nat_tests, times_without_other p q apart xs)

-- one that isn't inside is there no time
none_inside : (p : ℕ) (xs : List ℕ) → is_inside p xs ≡ false → times p xs ≡ 0
none_inside p [] none = refl
none_inside p (x ∷ xs) none = grind (arith, nat_tests, none_inside p xs)

some_inside : (p : ℕ) (xs : List ℕ) → is_inside p xs ≡ true → 1 ≤ times p xs
some_inside p [] some = cc
some_inside p (x ∷ xs) some = grind (arith, nat_tests, some_inside p xs)

pub times_left : (p : ℕ) (xs : List ℕ) → times p (without_last p xs) ≡ times p xs - 1
times_left p [] = refl
times_left p (x ∷ xs) = by (is_inside p xs) refl (times_left p xs)
  where
    by : (b : Bool) → is_inside p xs ≡ b → times p (without_last p xs) ≡ times p xs - 1 → times p (if b then x ∷ without_last p xs else (if x == p then xs else x ∷ xs)) ≡ times p (x ∷ xs) - 1
    by true is rest = let some = some_inside p xs is in grind (arith, nat_tests, rest, some)
    by false is rest = let none = none_inside p xs is in grind (arith, nat_tests, none)

pub times_left_other : (p q : ℕ) → q ≢ p → (xs : List ℕ) → times q (without_last p xs) ≡ times q xs
times_left_other p q apart [] = refl
times_left_other p q apart (x ∷ xs) = by (is_inside p xs) (times_left_other p q apart xs)
  where
    by : (b : Bool) → times q (without_last p xs) ≡ times q xs → times q (if b then x ∷ without_last p xs else (if x == p then xs else x ∷ xs)) ≡ times q (x ∷ xs)
    by true rest = grind (arith, nat_tests, rest)
    by false rest = grind (arith, nat_tests)

pub times_added : (p : ℕ) (xs : List ℕ) → times p (xs ++ p ∷ []) ≡ times p xs + 1
times_added p [] = grind (arith, nat_tests)
times_added p (x ∷ xs) = grind (arith, nat_tests, times_added p xs)

pub times_added_other : (p q : ℕ) → q ≢ p → (xs : List ℕ) → times q (xs ++ p ∷ []) ≡ times q xs
times_added_other p q apart [] = grind (arith, nat_tests)
times_added_other p q apart (x ∷ xs) = grind (arith, nat_tests, times_added_other p q apart xs)

-- a partition is among those that are marked exactly where it is marked
same_one : (homes g h : ℕ) → (h == g) ≡ true → is_marked h homes ≡ is_marked g homes
same_one homes g h is = ap (λ (x : ℕ). is_marked x homes) ((unsigned_Decides h g).0 is)

inside_if : (b : Bool) (g h : ℕ) (parts : List ℕ) → is_inside g ((if b then h ∷ [] else []) ++ parts) ≡ (if b then (h == g) || is_inside g parts else is_inside g parts)
inside_if true g h parts = refl
inside_if false g h parts = refl

and_false : (b : Bool) → (b && false) ≡ false
and_false true = refl
and_false false = refl

-- what is kept is there, where it was there and passes
kept_if : (kept same there passes rest : Bool) → (same ≡ true → kept ≡ passes) → rest ≡ (there && passes) → (if kept then same || rest else rest) ≡ ((same || there) && passes)
kept_if true true there passes rest is later = is refl
kept_if true false there passes rest is later = later
kept_if false true there true rest is later = absurd (false≢true (is refl))
kept_if false true there false rest is later = later ∙ and_false there
kept_if false false there passes rest is later = later

pub inside_marked : (homes g : ℕ) (parts : List ℕ) → is_inside g (marked_among homes parts) ≡ (is_inside g parts && is_marked g homes)
inside_marked homes g [] = refl
inside_marked homes g (h ∷ parts) =
    inside_if (is_marked h homes) g h (marked_among homes parts)
    ∙ kept_if (is_marked h homes) (h == g) (is_inside g parts) (is_marked g homes) (is_inside g (marked_among homes parts)) (same_one homes g h) (inside_marked homes g parts)

is_one : (g : ℕ) → 1 ≤ g → g ≤ 16 → is_inside g all_partitions ≡ true
is_one g low high = grind (arith, nat_tests)

pub marked_inside : (g homes : ℕ) → 1 ≤ g → g ≤ 16 → is_inside g (homes_marked homes) ≡ is_marked g homes
marked_inside g homes low high = inside_marked homes g all_partitions ∙ ap (λ (b : Bool). b && is_marked g homes) (is_one g low high)
