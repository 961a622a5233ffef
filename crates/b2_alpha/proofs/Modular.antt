-- Sums and differences in n places are sums and differences modulo a power of the base.
use Rattle.std.proofs.Common.{◌≡◌, ℕ, zero, suc, ◌+◌, ◌-◌, ◌*◌, ◌/◌, ◌%◌, ◌^◌, ◌<◌, List, [], ◌∷◌, ◌++◌, length, take, drop, replicate, refl, sym, ap, ◌∙◌, arith, ⊎_elim}
use Rattle.std.proofs.Math.Nat.{add-mul-mod_self_right}
use Rattle.std.proofs.lemmas.Nat.{pow-add, div-add-mod'}
use Rattle.std.proofs.lemmas.Bool.{cases_lt}
use Rattle.std.proofs.lemmas.List.{length-append, length-drop, take-append-drop}
use Rattle.b2_alpha.specs.Places.{number_in_base}
use Rattle.b2_alpha.specs.Sums.{aligned, sum_in, difference_in}
use Rattle.b2_alpha.proofs.PlaceValues.{AllBelow, number_in_base-lt, number_in_base-digits}
use Rattle.b2_alpha.proofs.Aligning.{aligned_below, length-aligned}

pub number_in_base-append : (base : ℕ) (xs ys : List ℕ) → number_in_base base (xs ++ ys) ≡ number_in_base base xs * base ^ length ys + number_in_base base ys
number_in_base-append base [] ys = omega arith
number_in_base-append base (x ∷ xs) ys =
    let powers : base ^ length (xs ++ ys) ≡ base ^ length xs * base ^ length ys = ap (λ n. base ^ n) (length-append xs ys) ∙ pow-add base (length xs) (length ys) in
    let rest : number_in_base base (xs ++ ys) ≡ number_in_base base xs * base ^ length ys + number_in_base base ys = number_in_base-append base xs ys in
    ap (λ p. x * p + number_in_base base (xs ++ ys)) powers ∙ omega arith

number_in_base-zeros : (base n : ℕ) (ys : List ℕ) → number_in_base base (replicate n 0 ++ ys) ≡ number_in_base base ys
number_in_base-zeros base zero ys = refl
number_in_base-zeros base (suc n) ys = let rest : number_in_base base (replicate n 0 ++ ys) ≡ number_in_base base ys = number_in_base-zeros base n ys in omega arith

-- what an operand has above the receiver's places
pub number_in_base-aligned : (base n : ℕ) (ys : List ℕ) → number_in_base base ys ≡ number_in_base base (take (length ys - n) ys) * base ^ n + number_in_base base (aligned n ys)
number_in_base-aligned base n ys =
    let under : number_in_base base (aligned n ys) ≡ number_in_base base (drop (length ys - n) ys) = number_in_base-zeros base (n - length ys) (drop (length ys - n) ys) in
    let split : number_in_base base ys ≡ number_in_base base (take (length ys - n) ys) * base ^ length (drop (length ys - n) ys) + number_in_base base (drop (length ys - n) ys) =
    ap (number_in_base base) (sym (take-append-drop (length ys - n) ys)) ∙ number_in_base-append base (take (length ys - n) ys) (drop (length ys - n) ys) in
    ⊎_elim
    (λ longer.
    let long : length (drop (length ys - n) ys) ≡ n = omega (arith, length-drop (length ys - n) ys) in
    split ∙ ap (λ k. number_in_base base (take (length ys - n) ys) * base ^ k + number_in_base base (drop (length ys - n) ys)) long ∙ omega arith)
    (λ shorter.
    let nothing : length ys - n ≡ 0 = omega arith in
    let above : number_in_base base (take (length ys - n) ys) ≡ 0 = ap (λ k. number_in_base base (take k ys)) nothing in
    let whole : number_in_base base (drop (length ys - n) ys) ≡ number_in_base base ys = ap (λ k. number_in_base base (drop k ys)) nothing in
    let product : number_in_base base (take (length ys - n) ys) * base ^ n ≡ 0 * base ^ n = ap (λ m. m * base ^ n) above in
    omega arith)
    (cases_lt n (length ys))

-- the number of a sum in as many places as the receiver has
pub number_in_base-sum_in : (base : ℕ) (xs ys : List ℕ) → 0 < base → number_in_base base (sum_in base xs (aligned (length xs) ys)) ≡ (number_in_base base xs + number_in_base base ys) % base ^ length xs
number_in_base-sum_in base xs ys some =
    number_in_base-digits base (length xs) (number_in_base base xs + number_in_base base (aligned (length xs) ys)) some
    ∙ sym (add-mul-mod_self_right (number_in_base base xs + number_in_base base (aligned (length xs) ys)) (number_in_base base (take (length ys - length xs) ys)) (base ^ length xs))
    ∙ ap (λ m. m % base ^ length xs) (let parts = number_in_base-aligned base (length xs) ys in omega arith)

mod_first : (p a b : ℕ) → (a % p + b) % p ≡ (a + b) % p
mod_first p a b =
    let whole : a / p * p + a % p ≡ a = div-add-mod' a p in
    sym (add-mul-mod_self_right (a % p + b) (a / p) p) ∙ ap (λ m. m % p) (omega arith)

difference_back : (p old al q : ℕ) → al < p → ((p + old - al) % p + (q * p + al)) % p ≡ old % p
difference_back p old al q small =
    mod_first p (p + old - al) (q * p + al)
    ∙ ap (λ m. m % p) (let e : p + old - al + (q * p + al) ≡ old + (q + 1) * p = omega arith in e)
    ∙ add-mul-mod_self_right old (q + 1) p

pub number_in_base-difference_in_aligned : (base : ℕ) (xs ys : List ℕ) → 0 < base → AllBelow base (aligned (length xs) ys) → (number_in_base base (difference_in base xs (aligned (length xs) ys)) + number_in_base base ys) % base ^ length xs ≡ number_in_base base xs % base ^ length xs
number_in_base-difference_in_aligned base xs ys some below =
    let small : number_in_base base (aligned (length xs) ys) < base ^ length xs = rw (sym (ap (λ n. base ^ n) (length-aligned (length xs) ys))) (number_in_base-lt base (aligned (length xs) ys) below) in
    ap (λ m. (m + number_in_base base ys) % base ^ length xs) (number_in_base-digits base (length xs) (base ^ length xs + number_in_base base xs - number_in_base base (aligned (length xs) ys)) some)
    ∙ ap (λ m. ((base ^ length xs + number_in_base base xs - number_in_base base (aligned (length xs) ys)) % base ^ length xs + m) % base ^ length xs) (number_in_base-aligned base (length xs) ys)
    ∙ difference_back (base ^ length xs) (number_in_base base xs) (number_in_base base (aligned (length xs) ys)) (number_in_base base (take (length ys - length xs) ys)) small

pub number_in_base-difference_in : (base : ℕ) (xs ys : List ℕ) → 0 < base → AllBelow base ys → (number_in_base base (difference_in base xs (aligned (length xs) ys)) + number_in_base base ys) % base ^ length xs ≡ number_in_base base xs % base ^ length xs
number_in_base-difference_in base xs ys some below = number_in_base-difference_in_aligned base xs ys some (aligned_below base (length xs) ys below)
