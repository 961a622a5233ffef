-- What stands over each place of a receiver when an operand ends where it ends.
use Rattle.std.proofs.Common.{◌≡◌, ℕ, ◌+◌, ◌-◌, ◌<◌, ◌≤◌, List, length, get_or, drop, replicate, cond, ltb, ap, ◌∙◌, arith, ⊎_elim}
use Rattle.std.proofs.lemmas.List.{length-append, length-drop, length-replicate, get_or-replicate, get_or_append_left, get_or-append_right, get_or-drop, get_or_past}
use Rattle.std.proofs.lemmas.Bool.{cases_lt}
use Rattle.std.proofs.lemmas.Bool.Decides.{nat_tests}
use Rattle.b2_alpha.specs.Sums.{aligned}
use Rattle.b2_alpha.proofs.PlaceValues.{AllBelow}

pub length-aligned : (n : ℕ) (ys : List ℕ) → length (aligned n ys) ≡ n
length-aligned n ys =
    omega (arith, length-append (replicate (n - length ys) 0) (drop (length ys - n) ys), length-replicate {A = ℕ} (n - length ys) 0, length-drop (length ys - n) ys)

-- the byte at a place counted from the end, and 0 past the first
pub aligned_in : (n : ℕ) (ys : List ℕ) (p i : ℕ) → n ≡ p + 1 + i → i < length ys → get_or (aligned n ys) p 0 ≡ get_or ys (length ys - 1 - i) 0
aligned_in n ys p i len inside =
    let zeros : length (replicate {A = ℕ} (n - length ys) 0) ≡ n - length ys = length-replicate {A = ℕ} (n - length ys) 0 in
    get_or-append_right (replicate (n - length ys) 0) (drop (length ys - n) ys) (n - length ys) p 0 zeros (omega arith)
    ∙ get_or-drop (length ys - n) ys (p - (n - length ys)) 0
    ∙ ap (λ k. get_or ys k 0) (omega arith)

pub aligned_out : (n : ℕ) (ys : List ℕ) (p i : ℕ) → n ≡ p + 1 + i → length ys ≤ i → get_or (aligned n ys) p 0 ≡ 0
aligned_out n ys p i len outside =
    let zeros : length (replicate {A = ℕ} (n - length ys) 0) ≡ n - length ys = length-replicate {A = ℕ} (n - length ys) 0 in
    get_or_append_left (replicate (n - length ys) 0) (drop (length ys - n) ys) 0 p (omega arith)
    ∙ get_or-replicate (n - length ys) p 0 0 (omega arith)

pub aligned_at : (n : ℕ) (ys : List ℕ) (p i : ℕ) → n ≡ p + 1 + i → get_or (aligned n ys) p 0 ≡ cond (ltb i (length ys)) (get_or ys (length ys - 1 - i) 0) 0
aligned_at n ys p i len =
    ⊎_elim (λ inside. let e = aligned_in n ys p i len inside in grind (arith, nat_tests)) (λ outside. let e = aligned_out n ys p i len outside in grind (arith, nat_tests)) (cases_lt i (length ys))

pub aligned_below : (base n : ℕ) (ys : List ℕ) → AllBelow base ys → AllBelow base (aligned n ys)
aligned_below base n ys below = λ p.
    let some : get_or ys (length ys) 0 < base = below (length ys) in
    ⊎_elim
    (λ inside.
    ⊎_elim
    (λ within. let e : get_or (aligned n ys) p 0 ≡ get_or ys (length ys - 1 - (n - 1 - p)) 0 = aligned_in n ys p (n - 1 - p) (omega arith) within in let b = below (length ys - 1 - (n - 1 - p)) in omega arith)
    (λ outside. let e : get_or (aligned n ys) p 0 ≡ 0 = aligned_out n ys p (n - 1 - p) (omega arith) outside in omega arith)
    (cases_lt (n - 1 - p) (length ys)))
    (λ past. let e : get_or (aligned n ys) p 0 ≡ 0 = get_or_past (aligned n ys) p 0 (omega (arith, length-aligned n ys)) in omega arith)
    (cases_lt p n)
