-- The length of the value in a string.
use Rattle.std.proofs.Common.{◌≡◌, ℕ, zero, suc, ◌+◌, ◌-◌, ◌<◌, ◌≤◌, Bool, true, false, max, min, List, [], ◌∷◌, ◌++◌, length, get_or, take, replicate, refl, sym, ap, ◌∙◌, arith}
use Rattle.std.specs.List.{prefix_len, suffix_len}
use Rattle.std.proofs.lemmas.List.{length-take, length-append, length-replicate, append-nil, append_assoc, reverse-append, take_all, take-append-le}
use Rattle.std.proofs.lemmas.List.Sums.{suffix_len_is}
use Rattle.b2_alpha.specs.Values.{is_blank, padded, value_of}

-- after a byte that is no blank there are only blanks
pub length-value_of : (xs : List ℕ) (n : ℕ) → 0 < n → n ≤ length xs → ((k : ℕ) → n ≤ k → k < length xs → is_blank (get_or xs k 0) ≡ true) → is_blank (get_or xs (n - 1) 0) ≡ false → n ≡ length (value_of xs)
length-value_of xs n some within blanks last =
    let blanks_after : suffix_len is_blank xs ≡ length xs - n = suffix_len_is is_blank xs n 0 within blanks (λ _. last) in
    let taken : length (value_of xs) ≡ min (max 1 (length xs - suffix_len is_blank xs)) (length xs) = length-take (max 1 (length xs - suffix_len is_blank xs)) xs in
    omega arith

all_blank : (xs : List ℕ) → ((k : ℕ) → 1 ≤ k → k < length xs → is_blank (get_or xs k 0) ≡ true) → is_blank (get_or xs 0 0) ≡ true → (k : ℕ) → 0 ≤ k → k < length xs → is_blank (get_or xs k 0) ≡ true
all_blank xs blanks here zero low inside = here
all_blank xs blanks here (suc k) low inside = blanks (suc k) (omega arith) inside

-- after the first byte there are only blanks, and it may be one
pub length-value_of-one : (xs : List ℕ) → 0 < length xs → ((k : ℕ) → 1 ≤ k → k < length xs → is_blank (get_or xs k 0) ≡ true) → 1 ≡ length (value_of xs)
length-value_of-one xs some blanks =
    let either : (b : Bool) → is_blank (get_or xs 0 0) ≡ b → 1 ≡ length (value_of xs) =
    λ b. elim b as (λ v. is_blank (get_or xs 0 0) ≡ v → 1 ≡ length (value_of xs)) [
      | true ↦ λ here.
          let blanks_after : suffix_len is_blank xs ≡ length xs - 0 = suffix_len_is is_blank xs 0 0 (omega arith) (all_blank xs blanks here) (λ never. absurd (omega arith)) in
          let taken : length (value_of xs) ≡ min (max 1 (length xs - suffix_len is_blank xs)) (length xs) = length-take (max 1 (length xs - suffix_len is_blank xs)) xs in
          omega arith
      | false ↦ λ here. length-value_of xs 1 (omega arith) (omega arith) blanks here
    ] in
    either (is_blank (get_or xs 0 0)) refl

pub length-value_of-none : (xs : List ℕ) → length xs ≡ 0 → 0 ≡ length (value_of xs)
length-value_of-none xs none =
    let taken : length (value_of xs) ≡ min (max 1 (length xs - suffix_len is_blank xs)) (length xs) = length-take (max 1 (length xs - suffix_len is_blank xs)) xs in
    omega arith

-- blanks at the end count to those that were there
suffix_len-blanks : (n : ℕ) (xs : List ℕ) → suffix_len is_blank (xs ++ replicate n 32) ≡ n + suffix_len is_blank xs
suffix_len-blanks zero xs = ap (suffix_len is_blank) (append-nil xs) ∙ omega arith
suffix_len-blanks (suc n) xs =
    let one : suffix_len is_blank (xs ++ 32 ∷ []) ≡ 1 + suffix_len is_blank xs = ap (prefix_len is_blank) (reverse-append xs (32 ∷ [])) in
    ap (suffix_len is_blank) (sym (append_assoc xs (32 ∷ []) (replicate n 32))) ∙ suffix_len-blanks n (xs ++ 32 ∷ []) ∙ omega arith

pub value_of-padded : (n : ℕ) (xs : List ℕ) → 0 < length xs → length xs ≤ n → value_of (padded n xs) ≡ value_of xs
value_of-padded n xs some fits =
    let whole : padded n xs ≡ xs ++ replicate (n - length xs) 32 = ap (λ l. l ++ replicate (n - length xs) 32) (take_all n xs fits) in
    let blanks : suffix_len is_blank (xs ++ replicate (n - length xs) 32) ≡ n - length xs + suffix_len is_blank xs = suffix_len-blanks (n - length xs) xs in
    let long : length (xs ++ replicate (n - length xs) 32) ≡ n = omega (arith, length-append xs (replicate (n - length xs) 32), length-replicate {A = ℕ} (n - length xs) 32) in
    let kept : length (xs ++ replicate (n - length xs) 32) - suffix_len is_blank (xs ++ replicate (n - length xs) 32) ≡ length xs - suffix_len is_blank xs = omega arith in
    ap value_of whole
    ∙ ap (λ k. take (max 1 k) (xs ++ replicate (n - length xs) 32)) kept
    ∙ take-append-le (max 1 (length xs - suffix_len is_blank xs)) xs (replicate (n - length xs) 32) (omega arith)
