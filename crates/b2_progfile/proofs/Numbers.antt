-- The lines of a text from a number to another, as a program has them.
use Rattle.std.proofs.Common.{◌≡◌, ℕ, ◌+◌, ◌<◌, ◌≤◌, Bool, true, false, cond, List, [], ◌∷◌, length, refl, arith, Less, nat_cmp}
use Rattle.std.proofs.lemmas.Bool.{and_parts, leb-true}
use Rattle.std.proofs.lemmas.Bool.Decides.{nat_tests}
use Rattle.std.specs.List.{AllByRecursion}
use Rattle.std.specs.List.Sorted.{IsStrictlySortedBy}
use Rattle.std.specs.Map.{keys_of}
use Rattle.b2_atom.specs.Lines.{is_line}
use Rattle.b2_text.specs.Program.{Lines, is_within}
use Rattle.b2_progfile.specs.Programs.{Ascending}
use Rattle.b2_progfile.specs.Saving.{lines_between}

-- the atoms of each line spell one
abbrev pub AllLines : Lines → Type 0
AllLines [] = Unit {0}
AllLines (l ∷ lines) = (is_line l.1 ≡ true) × AllLines lines

pub line-short : (t : List ℕ) → is_line t ≡ true → length t ≤ 255
unfolding is_line
line-short t h = leb-true (length t) 255 (and_parts _ _ h).0

nothing : (from to n : ℕ) → to < from → is_within from to n ≡ false
nothing from to n h = grind (arith, nat_tests)

skipped : (b : Bool) (e : ℕ × List ℕ) (xs : Lines) → b ≡ false → xs ≡ [] → cond b (e ∷ xs) xs ≡ []
skipped true e xs h k = cc
skipped false e xs h k = k

pub between-nothing : (from to : ℕ) (lines : Lines) → to < from → lines_between from to lines ≡ []
between-nothing from to [] h = refl
between-nothing from to (l ∷ lines) h = skipped (is_within from to l.0) l (lines_between from to lines) (nothing from to l.0 h) (between-nothing from to lines h)

within-most : (from to n : ℕ) → is_within from to n ≡ true → n ≤ to
within-most from to n h = grind (arith, nat_tests)

less : (n m : ℕ) → nat_cmp n m ≡ Less → n < m
less n m h = grind (arith, nat_tests)

pub above : (n : ℕ) (keys : List ℕ) → AllByRecursion (λ y. nat_cmp n y ≡ Less) keys → AllByRecursion (λ y. n + 1 ≤ y) keys
above n [] h = tt
above n (k ∷ keys) h = (let first = less n k h.0 in omega (arith, first), above n keys h.1)

taken : (b : Bool) (from to least : ℕ) (l : ℕ × List ℕ) (rest : Lines) → is_within from to l.0 ≡ b → to ≤ 9999 → least ≤ l.0
    → (AllLines rest → Ascending least rest) → (AllLines rest → Ascending (l.0 + 1) rest) → AllLines (cond b (l ∷ rest) rest) → Ascending least (cond b (l ∷ rest) rest)
taken true from to least l rest is most low later next h = let high = within-most from to l.0 is in (low, omega (arith, high, most), h.0, next h.1)
taken false from to least l rest is most low later next h = later h

ascending-from : (from to least : ℕ) (lines : Lines) → to ≤ 9999 → IsStrictlySortedBy nat_cmp (keys_of lines) → AllByRecursion (λ y. least ≤ y) (keys_of lines)
    → AllLines (lines_between from to lines) → Ascending least (lines_between from to lines)
unfolding IsStrictlySortedBy
ascending-from from to least [] most sorted low h = tt
ascending-from from to least (l ∷ lines) most sorted low h =
    taken (is_within from to l.0) from to least l (lines_between from to lines) refl most low.0
    (ascending-from from to least lines most sorted.1 low.1)
    (ascending-from from to (l.0 + 1) lines most sorted.1 (above l.0 (keys_of lines) sorted.0)) h

pub zero-low : (keys : List ℕ) → AllByRecursion (λ y. 0 ≤ y) keys
zero-low [] = tt
zero-low (k ∷ keys) = (omega arith, zero-low keys)

pub ascending-between : (from to : ℕ) (lines : Lines) → to ≤ 9999 → IsStrictlySortedBy nat_cmp (keys_of lines) → AllLines (lines_between from to lines) → Ascending 0 (lines_between from to lines)
ascending-between from to lines most sorted h = ascending-from from to 0 lines most sorted (zero-low (keys_of lines)) h
