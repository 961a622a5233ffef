-- Lists whose elements are changed by their places, one after the other, and a list whose last element is set.
use Rattle.std.proofs.Common.{◌≡◌, ℕ, zero, suc, ◌+◌, ◌-◌, ◌<◌, ◌≤◌, List, [], ◌∷◌, ◌++◌, length, take, drop, set, get_or, refl, sym, ap, ap₂, ◌∙◌, inl, inr, arith}
use Rattle.std.proofs.lemmas.Bool.{cases_lt}
use Rattle.std.proofs.Math.Seq.{drop-cons, take-suc-set}
use Rattle.std.proofs.lemmas.List.{append-nil, append_assoc, take_all, drop_all, set_at, set-get_or, drop-set-lt}
use Rattle.b2_screen.specs.Sheet.{each_from}

pub last_set : {X : Type 0} → (xs : List X) (v : X) → length xs ≡ 24 → set (drop 1 xs ++ take 1 xs) 23 v ≡ drop 1 xs ++ v ∷ []
last_set [] v h = cc
last_set (x ∷ xs) v h = set_at xs x [] v 23 (omega arith)

-- the first i changed, the others still to be
unfoldable pub each_partly : {X : Type 0} → (ℕ → X → X) → ℕ → List X → List X
each_partly f i xs = take i xs ++ each_from f i (drop i xs)

pub each_step : {X : Type 0} → (f : ℕ → X → X) (i : ℕ) (xs : List X) (d : X) → i < length xs
    → each_partly f (suc i) (set xs i (f i (get_or xs i d))) ≡ each_partly f i xs
unfolding each_from each_partly
each_step {X = X} f i xs d h =
    let v = f i (get_or xs i d) in
    ap (λ (front : List X). front ++ each_from f (suc i) (drop (suc i) (set xs i v))) (take-suc-set xs i v h)
    ∙ ap (λ (back : List X). (take i xs ++ v ∷ []) ++ each_from f (suc i) back) (drop-set-lt (suc i) xs i v (omega arith))
    ∙ append_assoc (take i xs) (v ∷ []) (each_from f (suc i) (drop (suc i) xs))
    ∙ ap (λ (back : List X). take i xs ++ each_from f i back) (sym (drop-cons xs i d h))

pub each_first : {X : Type 0} → (f : ℕ → X → X) (xs : List X) → each_partly f 0 xs ≡ each_from f 0 xs
unfolding each_partly
each_first {X = X} f xs = refl

pub each_done : {X : Type 0} → (f : ℕ → X → X) (n : ℕ) (xs : List X) → length xs ≤ n → each_partly f n xs ≡ xs
unfolding each_from each_partly
each_done {X = X} f n xs h =
    ap (λ (back : List X). take n xs ++ each_from f n back) (drop_all n xs h)
    ∙ append-nil (take n xs) ∙ take_all n xs h

-- ---- places that nothing changes

each_stay : {X : Type 0} → (f : ℕ → X → X) (i : ℕ) (xs : List X) (d : X) → ((x : X) → f i x ≡ x) → each_partly f (suc i) xs ≡ each_partly f i xs
each_stay {X = X} f i xs d same = elim (cases_lt i (length xs)) as (λ _. each_partly f (suc i) xs ≡ each_partly f i xs) [
  | inl low ↦ (let kept : set xs i (f i (get_or xs i d)) ≡ xs = ap (set xs i) (same (get_or xs i d)) ∙ set-get_or xs i d in ap (each_partly f (suc i)) (sym kept) ∙ each_step f i xs d low)
  | inr past ↦ each_done f (suc i) xs (omega (arith, past)) ∙ sym (each_done f i xs past)
]

pub each_skip : {X : Type 0} → (f : ℕ → X → X) (i n j : ℕ) (xs : List X) (d : X) → i + n ≡ j → ((k : ℕ) (x : X) → i ≤ k → k < j → f k x ≡ x) → each_partly f j xs ≡ each_partly f i xs
each_skip {X = X} f i zero j xs d e same = let here : j ≡ i = omega (arith, e) in ap (λ (k : ℕ). each_partly f k xs) here
each_skip {X = X} f i (suc n) j xs d e same =
    each_skip f (suc i) n j xs d (omega (arith, e)) (λ k x low high. same k x (omega (arith, low)) high)
    ∙ each_stay f i xs d (λ x. same i x (omega arith) (omega (arith, e)))

pub each_past : {X : Type 0} → (f : ℕ → X → X) (n : ℕ) (xs : List X) (d : X) → ((k : ℕ) (x : X) → n ≤ k → k < length xs → f k x ≡ x) → each_partly f n xs ≡ xs
each_past {X = X} f n xs d same = elim (cases_lt n (length xs)) as (λ _. each_partly f n xs ≡ xs) [
  | inl low ↦ (let whole : n + (length xs - n) ≡ length xs = omega (arith, low) in sym (each_skip f n (length xs - n) (length xs) xs d whole same) ∙ each_done f (length xs) xs (omega arith))
  | inr past ↦ each_done f n xs past
]

pub each_none : {X : Type 0} → (f : ℕ → X → X) (i : ℕ) (xs : List X) → ((k : ℕ) (x : X) → f k x ≡ x) → each_from f i xs ≡ xs
unfolding each_from
each_none {X = X} f i [] same = refl
each_none {X = X} f i (x ∷ xs) same = ap₂ (λ (y : X) (ys : List X). y ∷ ys) (same i x) (each_none f (suc i) xs same)

pub one_more : (i : ℕ) → i + 1 ≡ suc i
one_more i = omega arith

-- the step of a loop that sets one element after the other, at a place told by other counts
pub each_onto : {X : Type 0} → (f : ℕ → X → X) (i n m : ℕ) (xs : List X) (d v : X) (whole : List X)
    → n ≡ i → m ≡ i → i < length xs → v ≡ f i (get_or xs m d) → each_partly f i xs ≡ whole
    → each_partly f (i + 1) (set xs n v) ≡ whole
each_onto {X = X} f i n m xs d v whole a b h k l =
    ap (λ (place : ℕ). each_partly f (i + 1) (set xs place v)) a
    ∙ ap (λ (x : X). each_partly f (i + 1) (set xs i x)) (k ∙ ap (λ (place : ℕ). f i (get_or xs place d)) b)
    ∙ ap (λ (next : ℕ). each_partly f next (set xs i (f i (get_or xs i d)))) (one_more i)
    ∙ each_step f i xs d h ∙ l
