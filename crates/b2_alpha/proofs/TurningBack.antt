-- What is turned and turned back is as it was; eight bits are a byte.
use Rattle.std.proofs.Common.{◌≡◌, ℕ, zero, suc, ◌+◌, ◌-◌, ◌*◌, ◌/◌, ◌%◌, ◌^◌, ◌<◌, ◌≤◌, Bool, true, false, ℤ, pos, negsuc, neg_ℤ, ◌≤ℤ◌, List, [], ◌∷◌, ◌++◌, length, get_or, map, take, drop, refl, sym, ap, ◌∙◌, arith, ⊎_elim}
use Rattle.std.proofs.lemmas.Int.{ints}
use Rattle.std.proofs.lemmas.Nat.{pow-add, pow_pos, div-mul-add, mod-mul-add, mul-add-lt, div-add-mod', div_below, mod_below}
use Rattle.std.proofs.lemmas.List.{length-append, get_or_append_left, get_or-append_right}
use Rattle.std.proofs.lemmas.Bool.{cases_lt}
use Rattle.b2_alpha.specs.Places.{number_in_base, digits_in_base}
use Rattle.b2_alpha.specs.Bits.{turned, turned_whole, left_by, rotated}
use Rattle.b2_alpha.proofs.PlaceValues.{AllBelow, tail_below, number_in_base-lt, number_in_base-push, number_in_base-digits_fitting, length-digits, digits_in_base-number}
use Rattle.b2_alpha.proofs.Turning.{bytes_of_bits}

-- the two parts of a number
high_part : (w k x : ℕ) → k ≤ w → x < 2 ^ w → x / 2 ^ (w - k) < 2 ^ k
high_part w k x within small =
    let power : 2 ^ w ≡ 2 ^ k * 2 ^ (w - k) = ap (λ n. 2 ^ n) (let e : w ≡ k + (w - k) = omega arith in e) ∙ pow-add 2 k (w - k) in
    div_below x (2 ^ (w - k)) (2 ^ k) (pow_pos (w - k)) (rw power at small)

pub turned-lt : (w k x : ℕ) → k ≤ w → x < 2 ^ w → turned w k x < 2 ^ w
turned-lt w k x within small =
    let power : 2 ^ w ≡ 2 ^ k * 2 ^ (w - k) = ap (λ n. 2 ^ n) (let e : w ≡ k + (w - k) = omega arith in e) ∙ pow-add 2 k (w - k) in
    rw power (mul-add-lt (x % 2 ^ (w - k)) (2 ^ k) (x / 2 ^ (w - k)) (2 ^ (w - k)) (mod_below x (2 ^ (w - k)) (pow_pos (w - k))) (high_part w k x within small))

turned_zero : (w x : ℕ) → x < 2 ^ w → turned w 0 x ≡ x
turned_zero w x small =
    let none : x / 2 ^ w < 1 = div_below x (2 ^ w) 1 (pow_pos w) (omega arith) in
    let whole : x / 2 ^ w * 2 ^ w + x % 2 ^ w ≡ x = div-add-mod' x (2 ^ w) in
    let nothing : x / 2 ^ w ≡ 0 = omega arith in
    let above : x / 2 ^ w * 2 ^ w ≡ 0 * 2 ^ w = ap (λ q. q * 2 ^ w) nothing in
    ap (λ j. x % 2 ^ j * 1 + x / 2 ^ j) (let e : w - 0 ≡ w = omega arith in e) ∙ omega arith

turned_turned : (w k x : ℕ) → k ≤ w → x < 2 ^ w → turned w (w - k) (turned w k x) ≡ x
turned_turned w k x within small =
    let width : w - (w - k) ≡ k = omega arith in
    let high : x / 2 ^ (w - k) < 2 ^ k = high_part w k x within small in
    ap (λ j. turned w k x % 2 ^ j * 2 ^ (w - k) + turned w k x / 2 ^ j) width
    ∙ ap (λ r. r * 2 ^ (w - k) + turned w k x / 2 ^ k) (mod-mul-add (x % 2 ^ (w - k)) (2 ^ k) (x / 2 ^ (w - k)) high)
    ∙ ap (λ q. x / 2 ^ (w - k) * 2 ^ (w - k) + q) (div-mul-add (x % 2 ^ (w - k)) (2 ^ k) (x / 2 ^ (w - k)) high)
    ∙ div-add-mod' x (2 ^ (w - k))

-- by n and then by -n
pub turned_by_opposite : (w : ℕ) (n : ℤ) → 8 ≤ w → negsuc 7 ≤ℤ n → n ≤ℤ pos 8 → (x : ℕ) → x < 2 ^ w → turned w (left_by w (neg_ℤ n)) (turned w (left_by w n) x) ≡ x
turned_by_opposite w (pos zero) wide low high x small = ap (turned w 0) (turned_zero w x small) ∙ turned_zero w x small
turned_by_opposite w (pos (suc k)) wide low high x small = turned_turned w (suc k) x (omega (arith, ints)) small
turned_by_opposite w (negsuc k) wide low high x small =
    let within : suc k ≤ w = omega (arith, ints) in
    let back : w - (w - suc k) ≡ suc k = omega arith in
    ap (λ j. turned w j (turned w (w - suc k) x)) (sym back) ∙ turned_turned w (w - suc k) x (omega arith) small

left_within : (w : ℕ) (n : ℤ) → 8 ≤ w → n ≤ℤ pos 8 → left_by w n ≤ w
left_within w (pos k) wide high = omega (arith, ints)
left_within w (negsuc k) wide high = omega arith

each_back : (n : ℤ) (xs : List ℕ) → negsuc 7 ≤ℤ n → n ≤ℤ pos 8 → AllBelow 256 xs → map (turned 8 (left_by 8 (neg_ℤ n))) (map (turned 8 (left_by 8 n)) xs) ≡ xs
each_back n [] low high below = refl
each_back n (x ∷ xs) low high below =
    ap (λ y. y ∷ map (turned 8 (left_by 8 (neg_ℤ n))) (map (turned 8 (left_by 8 n)) xs)) (turned_by_opposite 8 n (omega arith) low high x (below 0))
    ∙ ap (λ l. x ∷ l) (each_back n xs low high (tail_below 256 x xs below))

number_small : (xs : List ℕ) → AllBelow 256 xs → number_in_base 256 xs < 2 ^ (8 * length xs)
number_small xs below = rw (sym (bytes_of_bits (length xs))) (number_in_base-lt 256 xs below)

digits_of_number : (xs : List ℕ) → AllBelow 256 xs → digits_in_base 256 (length xs) (number_in_base 256 xs) ≡ xs
digits_of_number xs below =
    ap (digits_in_base 256 (length xs)) (let e : number_in_base 256 xs ≡ 0 * 256 ^ length xs + number_in_base 256 xs = omega arith in e) ∙ digits_in_base-number 256 xs 0 below

number_of_digits : (k n : ℕ) → n < 2 ^ (8 * k) → number_in_base 256 (digits_in_base 256 k n) ≡ n
number_of_digits k n small = number_in_base-digits_fitting 256 k n (omega arith) (rw (bytes_of_bits k) small)

whole_back : (n : ℤ) (xs : List ℕ) → 8 ≤ 8 * length xs → negsuc 7 ≤ℤ n → n ≤ℤ pos 8 → AllBelow 256 xs → turned_whole (left_by (8 * length (turned_whole (left_by (8 * length xs) n) xs)) (neg_ℤ n)) (turned_whole (left_by (8 * length xs) n) xs) ≡ xs
whole_back n xs wide low high below =
    let small : turned (8 * length xs) (left_by (8 * length xs) n) (number_in_base 256 xs) < 2 ^ (8 * length xs) =
    turned-lt (8 * length xs) (left_by (8 * length xs) n) (number_in_base 256 xs) (left_within (8 * length xs) n wide high) (number_small xs below) in
    let same : length (turned_whole (left_by (8 * length xs) n) xs) ≡ length xs = length-digits 256 (length xs) (turned (8 * length xs) (left_by (8 * length xs) n) (number_in_base 256 xs)) in
    ap (λ len. digits_in_base 256 len (turned (8 * len) (left_by (8 * len) (neg_ℤ n)) (number_in_base 256 (turned_whole (left_by (8 * length xs) n) xs)))) same
    ∙ ap (λ m. digits_in_base 256 (length xs) (turned (8 * length xs) (left_by (8 * length xs) (neg_ℤ n)) m)) (number_of_digits (length xs) (turned (8 * length xs) (left_by (8 * length xs) n) (number_in_base 256 xs)) small)
    ∙ ap (digits_in_base 256 (length xs)) (turned_by_opposite (8 * length xs) n wide low high (number_in_base 256 xs) (number_small xs below))
    ∙ digits_of_number xs below

pub rotated_back : (whole : Bool) (n : ℤ) (xs : List ℕ) → negsuc 7 ≤ℤ n → n ≤ℤ pos 8 → AllBelow 256 xs → rotated whole (neg_ℤ n) (rotated whole n xs) ≡ xs
rotated_back false n xs low high below = each_back n xs low high below
rotated_back true n [] low high below = refl
rotated_back true n (x ∷ xs) low high below = whole_back n (x ∷ xs) (let e : 8 ≤ 8 * suc (length xs) = omega arith in e) low high below

below_append : (xs ys : List ℕ) → AllBelow 256 xs → AllBelow 256 ys → AllBelow 256 (xs ++ ys)
below_append xs ys below_xs below_ys = λ k.
    ⊎_elim
    (λ inside. let e : get_or (xs ++ ys) k 0 ≡ get_or xs k 0 = get_or_append_left xs ys 0 k inside in let b = below_xs k in omega arith)
    (λ past. let e : get_or (xs ++ ys) k 0 ≡ get_or ys (k - length xs) 0 = get_or-append_right xs ys (length xs) k 0 refl past in let b = below_ys (k - length xs) in omega arith)
    (cases_lt k (length xs))

below_one_at : (b : ℕ) → b < 256 → (k : ℕ) → get_or (b ∷ []) k 0 < 256
below_one_at b small zero = small
below_one_at b small (suc k) = omega arith

below_turned : (b : ℕ) (bs : List ℕ) → AllBelow 256 (b ∷ bs) → AllBelow 256 (bs ++ b ∷ [])
below_turned b bs below = below_append bs (b ∷ []) (tail_below 256 b bs below) (λ k. below_one_at b (below 0) k)

-- the first byte goes after the others
pub rotated_byte : (xs : List ℕ) → 0 < length xs → AllBelow 256 xs → rotated true (pos 8) xs ≡ drop 1 xs ++ take 1 xs
rotated_byte [] some below = absurd (omega arith)
rotated_byte (b ∷ bs) some below =
    let small : number_in_base 256 bs < 256 ^ length bs = number_in_base-lt 256 bs (tail_below 256 b bs below) in
    let power : 2 ^ (8 * length (b ∷ bs) - 8) ≡ 256 ^ length bs = ap (λ n. 2 ^ n) (let e : 8 * suc (length bs) - 8 ≡ 8 * length bs = omega arith in e) ∙ sym (bytes_of_bits (length bs)) in
    let value : turned (8 * length (b ∷ bs)) 8 (number_in_base 256 (b ∷ bs)) ≡ number_in_base 256 (bs ++ b ∷ []) =
    ap (λ p. number_in_base 256 (b ∷ bs) % p * 256 + number_in_base 256 (b ∷ bs) / p) power
    ∙ ap (λ r. r * 256 + number_in_base 256 (b ∷ bs) / 256 ^ length bs) (mod-mul-add b (256 ^ length bs) (number_in_base 256 bs) small)
    ∙ ap (λ q. number_in_base 256 bs * 256 + q) (div-mul-add b (256 ^ length bs) (number_in_base 256 bs) small)
    ∙ sym (number_in_base-push 256 bs b) in
    let same : length (b ∷ bs) ≡ length (bs ++ b ∷ []) = omega (arith, length-append bs (b ∷ [])) in
    ap (digits_in_base 256 (length (b ∷ bs))) value ∙ ap (λ n. digits_in_base 256 n (number_in_base 256 (bs ++ b ∷ []))) same ∙ digits_of_number (bs ++ b ∷ []) (below_turned b bs below)
