-- The numbers of lines ascend after a line was put in, and after lines of a range were taken out.
use Rattle.std.proofs.Common.{◌≡◌, ℕ, List, [], ◌∷◌, Bool, true, false, not, cond, filter, refl, sym, ap, subst, arith, nat_cmp, Ordering, Less, Equal, Greater}
use Rattle.std.proofs.lemmas.Bool.Decides.{nat_tests}
use Rattle.std.proofs.lemmas.List.Kept.{IsStrictlySortedBy-filter}
use Rattle.std.specs.List.{AllByRecursion}
use Rattle.std.specs.List.Sorted.{IsStrictlySortedBy}
use Rattle.std.specs.Map.{keys_of}
use Rattle.std.specs.Ordering.{match_ordering}
use Rattle.b2_text.specs.Program.{Lines, is_within, with_line, without}

all_by : (P : ℕ → Type 0) (o : Ordering) (n : ℕ) (a : List ℕ) (l : ℕ × List ℕ) (ls rest : Lines) → P n → AllByRecursion P (keys_of (l ∷ ls)) → AllByRecursion P (keys_of rest)
    → AllByRecursion P (keys_of (match_ordering o ((n, a) ∷ l ∷ ls) ((l.0, a) ∷ ls) (l ∷ rest)))
all_by P Less n a l ls rest here all later = (here, all)
all_by P Equal n a l ls rest here all later = all
all_by P Greater n a l ls rest here all later = (all.0, later)

-- what holds of the number and of all others
all_with : (P : ℕ → Type 0) (n : ℕ) (a : List ℕ) (ls : Lines) → P n → AllByRecursion P (keys_of ls) → AllByRecursion P (keys_of (with_line n a ls))
all_with P n a [] here all = (here, tt)
all_with P n a (l ∷ ls) here all = all_by P (nat_cmp n l.0) n a l ls (with_line n a ls) here all (all_with P n a ls here all.1)

below_too : (n m k : ℕ) → nat_cmp n m ≡ Less → nat_cmp m k ≡ Less → nat_cmp n k ≡ Less
below_too n m k h g = grind (arith, nat_tests)

all_below : (n m : ℕ) (ks : List ℕ) → nat_cmp n m ≡ Less → AllByRecursion (λ y. nat_cmp m y ≡ Less) ks → AllByRecursion (λ y. nat_cmp n y ≡ Less) ks
all_below n m [] h all = tt
all_below n m (k ∷ ks) h all = (below_too n m k h all.0, all_below n m ks h all.1)

flipped : (n m : ℕ) → nat_cmp n m ≡ Greater → nat_cmp m n ≡ Less
flipped n m h = grind (arith, nat_tests)

sorted_by : (o : Ordering) (n : ℕ) (a : List ℕ) (l : ℕ × List ℕ) (ls rest : Lines) → nat_cmp n l.0 ≡ o → IsStrictlySortedBy nat_cmp (keys_of (l ∷ ls))
    → IsStrictlySortedBy nat_cmp (keys_of rest) → (nat_cmp l.0 n ≡ Less → AllByRecursion (λ y. nat_cmp l.0 y ≡ Less) (keys_of rest))
    → IsStrictlySortedBy nat_cmp (keys_of (match_ordering o ((n, a) ∷ l ∷ ls) ((l.0, a) ∷ ls) (l ∷ rest)))
unfolding IsStrictlySortedBy
sorted_by Less n a l ls rest is ordered later above = ((is, all_below n l.0 (keys_of ls) is ordered.0), ordered)
sorted_by Equal n a l ls rest is ordered later above = ordered
sorted_by Greater n a l ls rest is ordered later above = (above (flipped n l.0 is), later)

pub sorted_with : (n : ℕ) (a : List ℕ) (ls : Lines) → IsStrictlySortedBy nat_cmp (keys_of ls) → IsStrictlySortedBy nat_cmp (keys_of (with_line n a ls))
unfolding IsStrictlySortedBy
sorted_with n a [] ordered = (tt, tt)
sorted_with n a (l ∷ ls) ordered =
    sorted_by (nat_cmp n l.0) n a l ls (with_line n a ls) refl ordered (sorted_with n a ls ordered.1)
    (λ less. all_with (λ y. nat_cmp l.0 y ≡ Less) n a ls less ordered.0)

filtered : (q : ℕ → Bool) (b : Bool) (l : ℕ × List ℕ) (rest : Lines) (ks : List ℕ) → keys_of rest ≡ ks → keys_of (cond b (l ∷ rest) rest) ≡ cond b (l.0 ∷ ks) ks
filtered q true l rest ks h = ap (λ (js : List ℕ). l.0 ∷ js) h
filtered q false l rest ks h = h

keys_filter : (q : ℕ → Bool) (ls : Lines) → keys_of (filter (λ l. q l.0) ls) ≡ filter q (keys_of ls)
keys_filter q [] = refl
keys_filter q (l ∷ ls) = filtered q (q l.0) l (filter (λ k. q k.0) ls) (filter q (keys_of ls)) (keys_filter q ls)

pub sorted_without : (from to : ℕ) (ls : Lines) → IsStrictlySortedBy nat_cmp (keys_of ls) → IsStrictlySortedBy nat_cmp (keys_of (without from to ls))
sorted_without from to ls ordered =
    let q : ℕ → Bool = λ n. not (is_within from to n) in
    subst (IsStrictlySortedBy nat_cmp) (sym (keys_filter q ls)) (IsStrictlySortedBy-filter nat_cmp q (keys_of ls) ordered)
