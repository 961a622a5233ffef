-- The numbers of the lines of which something holds, after a line was put in and after lines were taken out.
use Rattle.std.proofs.Common.{◌≡◌, ℕ, ◌<◌, ◌≤◌, nat_lt, Bool, true, false, cond, not, List, [], ◌∷◌, ◌++◌, filter, refl, sym, ap, ◌∙◌, arith, nat_cmp, Ordering, Less, Equal, Greater}
use Rattle.std.specs.List.{AllByRecursion}
use Rattle.std.specs.List.Sorted.{IsStrictlySortedBy}
use Rattle.std.specs.Map.{keys_of}
use Rattle.std.specs.Ordering.{match_ordering}
use Rattle.std.proofs.lemmas.Bool.{cond-true, cond-false}
use Rattle.std.proofs.lemmas.Bool.Decides.{nat_tests}
use Rattle.b2_text.specs.Program.{Lines, is_within, with_line, without}
use Rattle.b2_text.specs.Members.{greater, lesser, lines_where, numbers_where, with_member, without_members}
use Rattle.b2_text.proofs.Sizes.{less}
use Rattle.b2_text.proofs.Ranked.{all_above, all_more, is_less, none_below, not_less, rest_above}

-- what holds of the numbers of all lines
all_by : (P : ℕ → Type 0) (b : Bool) (l : ℕ × List ℕ) (ls : Lines) → P l.0 → AllByRecursion P (keys_of ls) → AllByRecursion P (keys_of (cond b (l ∷ ls) ls))
all_by P true l ls here all = (here, all)
all_by P false l ls here all = all

all_listed : (P : ℕ → Type 0) (test : List ℕ → Bool) (ls : Lines) → AllByRecursion P (keys_of ls) → AllByRecursion P (numbers_where test ls)
all_listed P test [] all = tt
all_listed P test (l ∷ ls) all = all_by P (test l.1) l (lines_where test ls) all.0 (all_listed P test ls all.1)

-- they ascend
sorted_by : (b : Bool) (l : ℕ × List ℕ) (ls : Lines) → AllByRecursion (λ m. nat_cmp l.0 m ≡ Less) (keys_of ls) → IsStrictlySortedBy nat_cmp (keys_of ls)
    → IsStrictlySortedBy nat_cmp (keys_of (cond b (l ∷ ls) ls))
unfolding IsStrictlySortedBy
sorted_by true l ls first rest = (first, rest)
sorted_by false l ls first rest = rest

pub sorted_listed : (test : List ℕ → Bool) (ls : Lines) → IsStrictlySortedBy nat_cmp (keys_of ls) → IsStrictlySortedBy nat_cmp (numbers_where test ls)
unfolding IsStrictlySortedBy
sorted_listed test [] ordered = tt
sorted_listed test (l ∷ ls) ordered =
    sorted_by (test l.1) l (lines_where test ls) (all_listed (λ m. nat_cmp l.0 m ≡ Less) test ls ordered.0) (sorted_listed test ls ordered.1)

-- with a line put in
first_by : (b : Bool) (l : ℕ × List ℕ) (ls : Lines) → keys_of (cond b (l ∷ ls) ls) ≡ cond b (l.0 ∷ []) [] ++ keys_of ls
first_by true l ls = refl
first_by false l ls = refl

above_by : (n : ℕ) (b : Bool) (l : ℕ × List ℕ) (ls : Lines) → l.0 ≤ n → greater n (keys_of (cond b (l ∷ ls) ls)) ≡ greater n (keys_of ls)
above_by n true l ls h = cond-false (nat_lt n l.0) (l.0 ∷ greater n (keys_of ls)) (greater n (keys_of ls)) (not_less n l.0 h)
above_by n false l ls h = refl

later_by : (b : Bool) (n : ℕ) (parts : List ℕ) (l : ℕ × List ℕ) (ls rest : Lines) → l.0 < n → keys_of rest ≡ lesser n (keys_of ls) ++ (parts ++ greater n (keys_of ls))
    → keys_of (cond b (l ∷ rest) rest) ≡ lesser n (keys_of (cond b (l ∷ ls) ls)) ++ (parts ++ greater n (keys_of (cond b (l ∷ ls) ls)))
later_by true n parts l ls rest h is =
    ap (λ (ms : List ℕ). l.0 ∷ ms) is
    ∙ sym (λ x. cond-true (nat_lt l.0 n) (l.0 ∷ lesser n (keys_of ls)) (lesser n (keys_of ls)) (is_less l.0 n h) x
    ++ (parts ++ cond-false (nat_lt n l.0) (l.0 ∷ greater n (keys_of ls)) (greater n (keys_of ls)) (not_less n l.0 (omega (arith, h))) x))
later_by false n parts l ls rest h is = is

equal_by : (n m : ℕ) → nat_cmp n m ≡ Equal → n ≡ m
equal_by n m h = grind (arith, nat_tests)

greater_by : (n m : ℕ) → nat_cmp n m ≡ Greater → m < n
greater_by n m h = grind (arith, nat_tests)

put_by : (test : List ℕ → Bool) (o : Ordering) (n : ℕ) (a : List ℕ) (l : ℕ × List ℕ) (ls rest : Lines) → nat_cmp n l.0 ≡ o → IsStrictlySortedBy nat_cmp (keys_of (l ∷ ls))
    → numbers_where test rest ≡ with_member (test a) n (numbers_where test ls)
    → numbers_where test (match_ordering o ((n, a) ∷ l ∷ ls) ((l.0, a) ∷ ls) (l ∷ rest)) ≡ with_member (test a) n (numbers_where test (l ∷ ls))
unfolding IsStrictlySortedBy
put_by test Less n a l ls rest is ordered later =
    let first = less n l.0 is in
    let all = all_listed (λ m. n < m) test (l ∷ ls) (first, rest_above n l.0 (keys_of ls) (omega (arith, first)) ordered.0) in
    let ms = numbers_where test (l ∷ ls) in
    first_by (test a) (n, a) (lines_where test (l ∷ ls))
    ∙ sym (λ x. none_below n ms (all_more (λ m. n < m) (λ m. n ≤ m) ms (λ m h. omega (arith, h)) all) x ++ (cond (test a) (n ∷ []) [] ++ all_above n ms all x))
put_by test Equal n a l ls rest is ordered later =
    let same = equal_by n l.0 is in
    let ks = lines_where test ls in
    let after = rest_above n l.0 (keys_of ls) (omega (arith, same)) ordered.0 in
    let first : n ≤ l.0 = omega (arith, same) in
    let all = all_listed (λ m. n ≤ m) test (l ∷ ls) (first, all_more (λ m. n < m) (λ m. n ≤ m) (keys_of ls) (λ m h. omega (arith, h)) after) in
    let above = above_by n (test l.1) l ks (omega (arith, same)) ∙ all_above n (keys_of ks) (all_listed (λ m. n < m) test ls after) in
    ap (λ (m : ℕ). keys_of (cond (test a) ((m, a) ∷ ks) ks)) (sym same)
    ∙ first_by (test a) (n, a) ks
    ∙ sym (λ x. none_below n (numbers_where test (l ∷ ls)) all x ++ (cond (test a) (n ∷ []) [] ++ above x))
put_by test Greater n a l ls rest is ordered later =
    later_by (test l.1) n (cond (test a) (n ∷ []) []) l (lines_where test ls) (lines_where test rest) (greater_by n l.0 is) later

none_by : (b : Bool) (n : ℕ) (a : List ℕ) → keys_of (cond b ((n, a) ∷ []) []) ≡ cond b (n ∷ []) [] ++ []
none_by true n a = refl
none_by false n a = refl

pub numbers_with : (test : List ℕ → Bool) (n : ℕ) (a : List ℕ) (ls : Lines) → IsStrictlySortedBy nat_cmp (keys_of ls)
    → numbers_where test (with_line n a ls) ≡ with_member (test a) n (numbers_where test ls)
unfolding IsStrictlySortedBy
numbers_with test n a [] ordered = none_by (test a) n a
numbers_with test n a (l ∷ ls) ordered = put_by test (nat_cmp n l.0) n a l ls (with_line n a ls) refl ordered (numbers_with test n a ls ordered.1)

-- with lines taken out
out_by : (test : ℕ → Bool) (b c : Bool) (l : ℕ × List ℕ) (ls ms : Lines) → test l.0 ≡ b → keys_of ms ≡ filter test (keys_of ls)
    → keys_of (cond b (cond c (l ∷ ms) ms) ms) ≡ filter test (keys_of (cond c (l ∷ ls) ls))
out_by test true true l ls ms is rest =
    ap (λ (ks : List ℕ). l.0 ∷ ks) rest ∙ sym (cond-true (test l.0) (l.0 ∷ filter test (keys_of ls)) (filter test (keys_of ls)) is)
out_by test true false l ls ms is rest = rest
out_by test false true l ls ms is rest = rest ∙ sym (cond-false (test l.0) (l.0 ∷ filter test (keys_of ls)) (filter test (keys_of ls)) is)
out_by test false false l ls ms is rest = rest

listed_by : (test : List ℕ → Bool) (b : Bool) (l : ℕ × List ℕ) (ls : Lines)
    → lines_where test (cond b (l ∷ ls) ls) ≡ cond b (cond (test l.1) (l ∷ lines_where test ls) (lines_where test ls)) (lines_where test ls)
listed_by test true l ls = refl
listed_by test false l ls = refl

pub numbers_without : (test : List ℕ → Bool) (from to : ℕ) (ls : Lines) → numbers_where test (without from to ls) ≡ without_members from to (numbers_where test ls)
numbers_without test from to [] = refl
numbers_without test from to (l ∷ ls) =
    ap (λ (ms : Lines). keys_of ms) (listed_by test (not (is_within from to l.0)) l (without from to ls))
    ∙ out_by (λ m. not (is_within from to m)) (not (is_within from to l.0)) (test l.1) l (lines_where test ls) (lines_where test (without from to ls)) refl
    (numbers_without test from to ls)
