-- Which partition comes next in an order: the one right after, and the first after the last and after those that aren't in it.
use Rattle.std.proofs.Common.{◌≡◌, ℕ, Bool, true, false, not, ◌&&◌, ◌||◌, ◌==◌, List, [], ◌∷◌, ◌++◌, refl, sym, arith}
use Rattle.std.specs.List.{list_any}
use Rattle.std.proofs.lemmas.Bool.{and_parts, false≢true}
use Rattle.std.proofs.lemmas.Bool.Decides.{nat_tests}
use Rattle.b2_term.specs.Orders.{none_twice, is_order, first_or, after_in, next_in, NextFollows, FirstFollowsLast, FirstFollowsOthers}

same : (p q : ℕ) → p ≡ q → (p == q) ≡ true
same p q h = grind (arith, nat_tests)

turned : (p q : ℕ) → (p == q) ≡ false → (q == p) ≡ false
turned p q h = grind (arith, nat_tests)

not_so : (b : Bool) → not b ≡ true → b ≡ false
not_so true h = sym h
not_so false h = refl

neither : (a b : Bool) → (a || b) ≡ false → (a ≡ false) × (b ≡ false)
neither true b h = absurd (false≢true (sym h))
neither false b h = (refl, h)

-- one that stands nowhere after a first number is another
apart : (b p : ℕ) (between rest : List ℕ) → list_any (λ q. b == q) (between ++ p ∷ rest) ≡ false → (b == p) ≡ false
apart b p [] rest h = (neither (b == p) (list_any (λ q. b == q) rest) h).0
apart b p (c ∷ cs) rest h = apart b p cs rest (neither (b == c) (list_any (λ q. b == q) (cs ++ p ∷ rest)) h).1

-- what comes after a number that stands once
after_one : (before rest : List ℕ) (p : ℕ) → none_twice (before ++ p ∷ rest) ≡ true → after_in p (before ++ p ∷ rest) ≡ rest
after_one [] rest p h = rw (same p p refl) refl
after_one (b ∷ bs) rest p h =
    let (none, others) = and_parts (not (list_any (λ q. b == q) (bs ++ p ∷ rest))) (none_twice (bs ++ p ∷ rest)) h in
    rw (apart b p bs rest (not_so (list_any (λ q. b == q) (bs ++ p ∷ rest)) none)) (after_one bs rest p others)

once : (order : List ℕ) → is_order order ≡ true → none_twice order ≡ true
once [] h = absurd (false≢true h)
once (p ∷ ps) h = h

pub next_follows : NextFollows
next_follows before after p q h =
    let rest = after_one before (q ∷ after) p (once (before ++ p ∷ q ∷ after) h) in
    rw rest refl

pub first_follows_last : FirstFollowsLast
first_follows_last before p h =
    let rest = after_one before [] p (once (before ++ p ∷ []) h) in
    rw rest refl

-- none comes after one that isn't there
none_after : (order : List ℕ) (p : ℕ) → list_any (λ q. p == q) order ≡ false → after_in p order ≡ []
none_after [] p h = refl
none_after (q ∷ qs) p h =
    let (other, none) = neither (p == q) (list_any (λ x. p == x) qs) h in
    rw (turned p q other) (none_after qs p none)

pub first_follows_others : FirstFollowsOthers
first_follows_others first p rest h = rw (none_after (first ∷ rest) p h) refl
