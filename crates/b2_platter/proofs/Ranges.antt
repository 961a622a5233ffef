-- Tests over the numbers of a range: the step of a loop, and what they say of each number.
use Rattle.std.proofs.Common.{◌≡◌, ℕ, zero, suc, ◌+◌, ◌-◌, ◌<◌, ◌≤◌, Bool, true, false, ◌&&◌, ◌||◌, [], ◌∷◌, refl, sym, ap, ◌∙◌, subst, inl, inr, ◌⊎◌, arith}
use Rattle.std.specs.List.{range_with_len, list_all, list_any}
use Rattle.std.proofs.lemmas.Bool.{and_parts, and_from, cases_lt, or_cases, or_left, or_right, or_from}

-- the numbers from k to n
pub range-step : (k n : ℕ) → k < n → range_with_len k (n - k) ≡ k ∷ range_with_len (k + 1) (n - (k + 1))
range-step k n h =
    let e : n - k ≡ suc (n - (k + 1)) = omega arith in
    ap (range_with_len k) e

pub range-end : (k n : ℕ) → n ≤ k → range_with_len k (n - k) ≡ []
range-end k n h = let e : n - k ≡ zero = omega arith in ap (range_with_len k) e

pub list_all_step : (p : ℕ → Bool) (k n : ℕ) → k < n → list_all p (range_with_len k (n - k)) ≡ (p k && list_all p (range_with_len (k + 1) (n - (k + 1))))
list_all_step p k n h = ap (list_all p) (range-step k n h)

pub here : (a k : ℕ) → a ≤ k → (a ≡ k) ⊎ (a + 1 ≤ k)
here a k low = elim (cases_lt a k) as (λ _. (a ≡ k) ⊎ (a + 1 ≤ k)) [ inl l ↦ inr (omega arith) | inr l ↦ inl (omega arith) ]

-- a number of the range passes
pub list_all-at : (p : ℕ → Bool) (a n : ℕ) → list_all p (range_with_len a n) ≡ true → (k : ℕ) → a ≤ k → k < a + n → p k ≡ true
list_all-at p a zero h k low high = absurd (omega arith)
list_all-at p a (suc n) h k low high =
    let parts = and_parts (p a) (list_all p (range_with_len (a + 1) n)) h in
    let pick : (a ≡ k → p k ≡ true) = λ e. subst (λ (m : ℕ). p m ≡ true) e parts.0 in
    let other : (a + 1 ≤ k → p k ≡ true) = λ l. list_all-at p (a + 1) n parts.1 k l (omega arith) in
    elim (here a k low) [ inl e ↦ pick e | inr l ↦ other l ]

-- each number of the range passes
pub list_all-from : (p : ℕ → Bool) (a n : ℕ) → ((k : ℕ) → a ≤ k → k < a + n → p k ≡ true) → list_all p (range_with_len a n) ≡ true
list_all-from p a zero h = refl
list_all-from p a (suc n) h =
    and_from (p a) (list_all p (range_with_len (a + 1) n)) (h a (omega arith) (omega arith)) (list_all-from p (a + 1) n (λ k low high. h k (omega arith) (omega arith)))

-- a loop over a range goes on where its number passes
pub all_more : (p : ℕ → Bool) (k n : ℕ) (whole : Bool) → k < n → list_all p (range_with_len k (n - k)) ≡ whole → p k ≡ true → list_all p (range_with_len (k + 1) (n - (k + 1))) ≡ whole
all_more p k n whole h was passes =
    ap (λ (b : Bool). b && list_all p (range_with_len (k + 1) (n - (k + 1)))) (sym passes) ∙ sym (list_all_step p k n h) ∙ was

-- a number of the range that passes
pub list_any-found : (p : ℕ → Bool) (a n : ℕ) → list_any p (range_with_len a n) ≡ true → (k : ℕ) × (a ≤ k) × (k < a + n) × (p k ≡ true)
list_any-found p a zero h = cc
list_any-found p a (suc n) h =
    elim (or_cases (p a) (list_any p (range_with_len (a + 1) n)) h) as (λ _. (k : ℕ) × (a ≤ k) × (k < a + suc n) × (p k ≡ true)) [
      | inl e ↦ (a, omega arith, omega arith, e)
      | inr e ↦ (let w = list_any-found p (a + 1) n e in (w.0, omega (arith, w.1), omega (arith, w.2), w.3))
    ]

pub list_any-at : (p : ℕ → Bool) (a n k : ℕ) → a ≤ k → k < a + n → p k ≡ true → list_any p (range_with_len a n) ≡ true
list_any-at p a zero k low high h = absurd (omega arith)
list_any-at p a (suc n) k low high h =
    elim (here a k low) [
      | inl e ↦ or_left (p a) _ (subst (λ (m : ℕ). p m ≡ true) (sym e) h)
      | inr l ↦ or_right (p a) _ (list_any-at p (a + 1) n k l (omega arith) h)
    ]

-- no number of the range passes
pub list_any-none : (p : ℕ → Bool) (a n : ℕ) → ((k : ℕ) → a ≤ k → k < a + n → p k ≡ false) → list_any p (range_with_len a n) ≡ false
list_any-none p a zero h = refl
list_any-none p a (suc n) h =
    or_from (p a) (list_any p (range_with_len (a + 1) n)) (h a (omega arith) (omega arith)) (list_any-none p (a + 1) n (λ k low high. h k (omega arith) (omega arith)))

pub list_any-same : (p q : ℕ → Bool) (a n : ℕ) → ((k : ℕ) → a ≤ k → k < a + n → p k ≡ q k) → list_any p (range_with_len a n) ≡ list_any q (range_with_len a n)
list_any-same p q a zero h = refl
list_any-same p q a (suc n) h =
    ap (λ (b : Bool). b || list_any p (range_with_len (a + 1) n)) (h a (omega arith) (omega arith)) ∙ ap (λ (b : Bool). q a || b) (list_any-same p q (a + 1) n (λ k low high. h k (omega arith) (omega arith)))
