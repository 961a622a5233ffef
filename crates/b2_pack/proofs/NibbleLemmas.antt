-- Nibbles by their places.
use Rattle.std.proofs.Common.{◌≡◌, ℕ, zero, suc, ◌+◌, ◌-◌, ◌*◌, ◌/◌, ◌%◌, ◌^◌, ◌<◌, ◌≤◌, ◌&&◌, Bool, true, false, List, [], ◌∷◌, length, get_or, take, drop, sym, ap, ◌∙◌, refl, arith}
use Rattle.std.proofs.Math.ListN.{get_or-eq_default}
use Rattle.std.specs.List.{list_all}
use Rattle.b2_base.specs.Lexical.{first}
use Rattle.b2_pack.specs.Nibbles.{nibbles, paired, last_digits}

pub nibbles-length : (bs : List ℕ) → length (nibbles bs) ≡ 2 * length bs
nibbles-length [] = refl
nibbles-length (b ∷ bs) = omega (arith, nibbles-length bs)

pub nibbles-high : (bs : List ℕ) (i : ℕ) → get_or (nibbles bs) (2 * i) 0 ≡ get_or bs i 0 / 16
nibbles-high [] i = refl
nibbles-high (b ∷ bs) zero = refl
nibbles-high (b ∷ bs) (suc i) = ap (λ k. get_or (nibbles (b ∷ bs)) k 0) (let e : 2 * suc i ≡ suc (suc (2 * i)) = omega arith in e) ∙ nibbles-high bs i

pub nibbles-low : (bs : List ℕ) (i : ℕ) → get_or (nibbles bs) (2 * i + 1) 0 ≡ get_or bs i 0 % 16
nibbles-low [] i = refl
nibbles-low (b ∷ bs) zero = refl
nibbles-low (b ∷ bs) (suc i) = ap (λ k. get_or (nibbles (b ∷ bs)) k 0) (let e : 2 * suc i + 1 ≡ suc (suc (2 * i + 1)) = omega arith in e) ∙ nibbles-low bs i

pub nibble-even : (bs : List ℕ) (place : ℕ) → place % 2 ≡ 0 → get_or bs (place / 2) 0 / 16 ≡ get_or (nibbles bs) place 0
nibble-even bs place e =
    sym (nibbles-high bs (place / 2)) ∙ ap (λ k. get_or (nibbles bs) k 0) (let same : 2 * (place / 2) ≡ place = omega arith in same)

pub nibble-odd : (bs : List ℕ) (place : ℕ) → (place % 2 ≡ 0 → ⊥) → get_or bs (place / 2) 0 % 16 ≡ get_or (nibbles bs) place 0
nibble-odd bs place e =
    sym (nibbles-low bs (place / 2)) ∙ ap (λ k. get_or (nibbles bs) k 0) (let same : 2 * (place / 2) + 1 ≡ place = omega arith in same)

pub paired-at : (ns : List ℕ) (i : ℕ) → get_or (paired ns) i 0 ≡ 16 * get_or ns (2 * i) 0 + get_or ns (2 * i + 1) 0
paired-at [] i = refl
paired-at (h ∷ []) zero = omega arith
paired-at (h ∷ []) (suc i) =
    sym (ap (λ k. 16 * get_or (h ∷ []) k 0 + get_or (h ∷ []) (2 * suc i + 1) 0) (let e : 2 * suc i ≡ suc (suc (2 * i)) = omega arith in e)
    ∙ ap (λ k. 16 * 0 + get_or (h ∷ []) k 0) (let e : 2 * suc i + 1 ≡ suc (suc (2 * i + 1)) = omega arith in e))
paired-at (h ∷ l ∷ ns) zero = refl
paired-at (h ∷ l ∷ ns) (suc i) =
    paired-at ns i
    ∙ sym (ap (λ k. 16 * get_or (h ∷ l ∷ ns) k 0 + get_or (h ∷ l ∷ ns) (2 * suc i + 1) 0) (let e : 2 * suc i ≡ suc (suc (2 * i)) = omega arith in e)
    ∙ ap (λ k. 16 * get_or ns (2 * i) 0 + get_or (h ∷ l ∷ ns) k 0) (let e : 2 * suc i + 1 ≡ suc (suc (2 * i + 1)) = omega arith in e))

pub paired-length : (ns : List ℕ) → length (paired ns) ≡ (length ns + 1) / 2
paired-length [] = refl
paired-length (h ∷ []) = refl
paired-length (h ∷ l ∷ ns) = omega (arith, paired-length ns)

pub last_digits-length : (n m : ℕ) → length (last_digits n m) ≡ n
unfolding last_digits
last_digits-length zero m = refl
last_digits-length (suc n) m = omega (arith, last_digits-length n m)

pub last_digits-at : (n m j : ℕ) → j < n → get_or (last_digits n m) j 0 ≡ m / 10 ^ (n - 1 - j) % 10
unfolding last_digits
last_digits-at zero m j h = absurd (omega arith)
last_digits-at (suc n) m zero h = ap (λ k. m / 10 ^ k % 10) (let e : n ≡ suc n - 1 - 0 = omega arith in e)
last_digits-at (suc n) m (suc j) h =
    last_digits-at n m j (omega arith) ∙ ap (λ k. m / 10 ^ k % 10) (let e : n - 1 - j ≡ suc n - 1 - suc j = omega arith in e)

pub last_digits-past : (n m j : ℕ) → n ≤ j → get_or (last_digits n m) j 0 ≡ 0
last_digits-past n m j h = get_or-eq_default (last_digits n m) 0 (omega (arith, last_digits-length n m))

first_true : (a b : Bool) → (a && b) ≡ true → a ≡ true
first_true true b e = refl
first_true false b e = absurd (cc)

second_true : (a b : Bool) → (a && b) ≡ true → b ≡ true
second_true true b e = e
second_true false b e = absurd (cc)

-- each element passes where all do
pub each_passes : (p : ℕ → Bool) (xs : List ℕ) (k : ℕ) → k < length xs → list_all p xs ≡ true → p (get_or xs k 0) ≡ true
each_passes p [] k inside all = absurd (omega arith)
each_passes p (x ∷ xs) zero inside all = first_true (p x) (list_all p xs) all
each_passes p (x ∷ xs) (suc k) inside all = each_passes p xs k (omega arith) (second_true (p x) (list_all p xs) all)

-- all of a part pass where all do
pub all_taken : (p : ℕ → Bool) (n : ℕ) (xs : List ℕ) → list_all p xs ≡ true → list_all p (take n xs) ≡ true
all_taken p zero xs all = refl
all_taken p (suc n) [] all = refl
all_taken p (suc n) (x ∷ xs) all =
    ap (λ t. t && list_all p (take n xs)) (first_true (p x) (list_all p xs) all) ∙ all_taken p n xs (second_true (p x) (list_all p xs) all)

pub all_dropped : (p : ℕ → Bool) (n : ℕ) (xs : List ℕ) → list_all p xs ≡ true → list_all p (drop n xs) ≡ true
all_dropped p zero xs all = all
all_dropped p (suc n) [] all = refl
all_dropped p (suc n) (x ∷ xs) all = all_dropped p n xs (second_true (p x) (list_all p xs) all)

pub first-at : (ns : List ℕ) → first ns ≡ get_or ns 0 0
first-at [] = refl
first-at (n ∷ ns) = refl
