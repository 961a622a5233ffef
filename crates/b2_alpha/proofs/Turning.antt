-- Bits that turn: one number, one byte, and a whole string.
use Rattle.std.proofs.Common.{◌≡◌, ℕ, zero, suc, ◌+◌, ◌-◌, ◌*◌, ◌/◌, ◌%◌, ◌^◌, ◌<◌, ◌≤◌, ◌≢◌, bit_or, IsTrue, nat_eq, List, [], ◌∷◌, ◌++◌, length, get_or, set, drop, take, refl, sym, ap, ◌∙◌, arith}
use Rattle.std.specs.Int.{w8, rotate_left}
use Rattle.std.proofs.Math.Nat.{pow-zero, pow-suc, one-le-pow, pow-le-pow_right, div-div-eq-div-mul, add-mul-div_right, add-mul-mod_self_right}
use Rattle.std.proofs.lemmas.Nat.{or_shifted, one_shl, mul-le, pow-add, pow_pos, div-mul-add, div-add-mod', div_below, mod_below}
use Rattle.std.proofs.lemmas.Nat.Bits.{bit_at_or, same_from_bits}
use Rattle.std.proofs.lemmas.Bool.{eqb-true, eq-eqb}
use Rattle.std.proofs.lemmas.List.{drop_all, drop-drop, drop-set-lt, get_or-drop, get_or-set_other, take_all, take_more, take_more_set}
use Rattle.b2_alpha.specs.Places.{number_in_base, digits_in_base}
use Rattle.b2_alpha.specs.Bits.{turned, turned_whole}
use Rattle.b2_alpha.proofs.PlaceValues.{AllBelow, tail_below, number_in_base-lt, number_at, number_in_base-push, number_in_base-more, pow_more, place_more, digits_in_base-number}

or_same : (n : ℕ) → bit_or n n ≡ n
or_same n = same_from_bits (bit_or n n) n (λ i. bit_at_or n n i ∙ omega arith)

-- what `rotate_left` of a byte makes, by the number of bits
turned_parts : (n k w m : ℕ) → n / w < 2 ^ k → n * m % 256 ≡ n % w * 2 ^ k → bit_or (n * m % 256) (n / w) ≡ n % w * 2 ^ k + n / w
turned_parts n k w m small low = ap (λ x. bit_or x (n / w)) low ∙ or_shifted (n % w) k (n / w) small

pub byte_turned : (n k : ℕ) → n < 256 → k ≤ 8 → rotate_left w8 n k ≡ turned 8 k n
byte_turned n zero small within =
    let same : n * 1 % 256 ≡ n = omega arith in
    let whole : n / 1 ≡ n = omega arith in
    let turned_none : n ≡ n % 256 * 1 + n / 256 = omega arith in
    rw (same, whole, or_same) turned_none
byte_turned n (suc zero) small within = turned_parts n 1 128 2 (omega arith) (omega arith)
byte_turned n (suc (suc zero)) small within = turned_parts n 2 64 4 (omega arith) (omega arith)
byte_turned n (suc (suc (suc zero))) small within = turned_parts n 3 32 8 (omega arith) (omega arith)
byte_turned n (suc (suc (suc (suc zero)))) small within = turned_parts n 4 16 16 (omega arith) (omega arith)
byte_turned n (suc (suc (suc (suc (suc zero))))) small within = turned_parts n 5 8 32 (omega arith) (omega arith)
byte_turned n (suc (suc (suc (suc (suc (suc zero)))))) small within = turned_parts n 6 4 64 (omega arith) (omega arith)
byte_turned n (suc (suc (suc (suc (suc (suc (suc zero))))))) small within = turned_parts n 7 2 128 (omega arith) (omega arith)
byte_turned n (suc (suc (suc (suc (suc (suc (suc (suc zero)))))))) small within =
    let same : n * 1 % 256 ≡ n = omega arith in
    let whole : n / 1 ≡ n = omega arith in
    let turned_all : n ≡ n % 1 * 256 + n = omega arith in
    rw (same, whole, or_same) turned_all
byte_turned n (suc (suc (suc (suc (suc (suc (suc (suc (suc k))))))))) small within = absurd (omega arith)

-- a number of bytes has eight times as many bits
pub bytes_of_bits : (n : ℕ) → 256 ^ n ≡ 2 ^ (8 * n)
bytes_of_bits zero = refl
bytes_of_bits (suc n) =
    pow-suc 256 n ∙ ap (λ p. p * 256) (bytes_of_bits n) ∙ sym (pow-add 2 (8 * n) 8) ∙ ap (λ k. 2 ^ k) (omega arith)

-- a number without bits from k on is below 2 ^ k
pub none_above : (v k : ℕ) → (IsTrue (nat_eq (v / 2 ^ k) 0) → v < 2 ^ k) × (v < 2 ^ k → IsTrue (nat_eq (v / 2 ^ k) 0))
none_above v k =
    let split : v / 2 ^ k * 2 ^ k + v % 2 ^ k ≡ v = div-add-mod' v (2 ^ k) in
    let rest : v % 2 ^ k < 2 ^ k = mod_below v (2 ^ k) (pow_pos k) in (
      (λ none. let nothing : v / 2 ^ k * 2 ^ k ≡ 0 * 2 ^ k = ap (λ q. q * 2 ^ k) (eqb-true (v / 2 ^ k) 0 none) in omega arith),
      (λ below. let one : v / 2 ^ k < 1 = div_below v (2 ^ k) 1 (pow_pos k) (omega arith) in eq-eqb (v / 2 ^ k) 0 (omega arith)),
    )

-- what is above a power of the base is lost
pub digits_lost : (base k q y : ℕ) → 0 < base → digits_in_base base k (q * base ^ k + y) ≡ digits_in_base base k y
digits_lost base zero q y some = refl
digits_lost base (suc k) q y some =
    let same : q * base ^ suc k + y ≡ y + q * base * base ^ k = ap (λ p. q * p + y) (pow-suc base k) ∙ omega arith in
    let first : (y + q * base * base ^ k) / base ^ k % base ≡ y / base ^ k % base =
    ap (λ m. m % base) (add-mul-div_right y (q * base) (one-le-pow k base some)) ∙ add-mul-mod_self_right (y / base ^ k) q base in
    let rest : digits_in_base base k (y + q * base * base ^ k) ≡ digits_in_base base k y = ap (digits_in_base base k) (let e : y + q * base * base ^ k ≡ q * base * base ^ k + y = omega arith in e) ∙ digits_lost base k (q * base) y some in
    ap (λ m. m / base ^ k % base ∷ digits_in_base base k m) same ∙ ap (λ d. d ∷ digits_in_base base k (y + q * base * base ^ k)) first ∙ ap (λ l. y / base ^ k % base ∷ l) rest

-- A number times 2 ^ k, with its k high bits come in at the right, is turned but for what is above its bits.
times_turned : (n w m whole : ℕ) → w * m ≡ whole → n * m + n / w ≡ n / w * whole + (n % w * m + n / w)
times_turned n w m whole power =
    let scaled : (n / w * w + n % w) * m ≡ n * m = ap (λ x. x * m) (div-add-mod' n w) in
    let above : n / w * (w * m) ≡ n / w * whole = ap (λ p. n / w * p) power in
    omega arith

-- A number divided by 2 ^ k, with its k low bits come in at the left, is turned.
divided_turned : (n w m whole : ℕ) → 0 < m → whole ≡ w * m → (n % m * whole + n) / m ≡ n % m * w + n / m
divided_turned n w m whole some power =
    let high : n % m * whole + n ≡ n + n % m * w * m = ap (λ p. n % m * p + n) power ∙ omega arith in
    ap (λ x. x / m) high ∙ add-mul-div_right n (n % m * w) some ∙ omega arith

-- The first byte's high bits are what a string's number has above all but k bits.
pub first_bits : (k b : ℕ) (bs : List ℕ) → k ≤ 8 → AllBelow 256 (b ∷ bs) → number_in_base 256 (b ∷ bs) / 2 ^ (8 * length (b ∷ bs) - k) ≡ b / 2 ^ (8 - k)
first_bits k b bs within below =
    let small : number_in_base 256 bs < 256 ^ length bs = number_in_base-lt 256 bs (tail_below 256 b bs below) in
    let power : 2 ^ (8 * length (b ∷ bs) - k) ≡ 256 ^ length bs * 2 ^ (8 - k) =
    ap (λ n. 2 ^ n) (let e : 8 * suc (length bs) - k ≡ 8 * length bs + (8 - k) = omega arith in e) ∙ pow-add 2 (8 * length bs) (8 - k) ∙ ap (λ p. p * 2 ^ (8 - k)) (sym (bytes_of_bits (length bs))) in
    ap (λ p. number_in_base 256 (b ∷ bs) / p) power ∙ sym (div-div-eq-div-mul (number_in_base 256 (b ∷ bs)) (256 ^ length bs) (2 ^ (8 - k)))
    ∙ ap (λ n. n / 2 ^ (8 - k)) (div-mul-add b (256 ^ length bs) (number_in_base 256 bs) small)

-- all bits but k, and k
bits_split : (k count : ℕ) → k ≤ 8 * count → 256 ^ count ≡ 2 ^ (8 * count - k) * 2 ^ k
bits_split k count within =
    let parts : 8 * count ≡ 8 * count - k + k = omega arith in
    bytes_of_bits count ∙ ap (λ n. 2 ^ n) parts ∙ pow-add 2 (8 * count - k) k

digits_times_turned : (k count n : ℕ) → k ≤ 8 * count → digits_in_base 256 count (n * 2 ^ k + n / 2 ^ (8 * count - k)) ≡ digits_in_base 256 count (turned (8 * count) k n)
digits_times_turned k count n within =
    ap (digits_in_base 256 count) (times_turned n (2 ^ (8 * count - k)) (2 ^ k) (256 ^ count) (sym (bits_split k count within)))
    ∙ digits_lost 256 count (n / 2 ^ (8 * count - k)) (turned (8 * count) k n) (omega arith)

divided_is_turned : (k count n : ℕ) → k ≤ 8 * count → (n % 2 ^ k * 256 ^ count + n) / 2 ^ k ≡ turned (8 * count) (8 * count - k) n
divided_is_turned k count n within =
    let others : 8 * count - (8 * count - k) ≡ k = omega arith in
    divided_turned n (2 ^ (8 * count - k)) (2 ^ k) (256 ^ count) (pow_pos k) (bits_split k count within)
    ∙ sym (ap (λ w. n % 2 ^ w * 2 ^ (8 * count - k) + n / 2 ^ w) others)

-- the same of a string, which has no bits where it is empty
pub left_turned : (k : ℕ) → k ≤ 8 → (xs : List ℕ) → digits_in_base 256 (length xs) (number_in_base 256 xs * 2 ^ k + number_in_base 256 xs / 2 ^ (8 * length xs - k)) ≡ turned_whole k xs
left_turned k within [] = refl
left_turned k within (b ∷ bs) =
    digits_times_turned k (length (b ∷ bs)) (number_in_base 256 (b ∷ bs)) (let e : k ≤ 8 * suc (length bs) = omega arith in e)

pub right_turned : (k : ℕ) → k ≤ 8 → (xs : List ℕ) → digits_in_base 256 (length xs) ((number_in_base 256 xs % 2 ^ k * 256 ^ length xs + number_in_base 256 xs) / 2 ^ k) ≡ turned_whole (8 * length xs - k) xs
right_turned k within [] = refl
right_turned k within (b ∷ bs) =
    ap (digits_in_base 256 (length (b ∷ bs))) (divided_is_turned k (length (b ∷ bs)) (number_in_base 256 (b ∷ bs)) (let e : k ≤ 8 * suc (length bs) = omega arith in e))

-- The last byte's low bits are the number's.
pub last_bits : (k x : ℕ) (xs : List ℕ) → k ≤ 8 → number_in_base 256 (xs ++ x ∷ []) % 2 ^ k ≡ x % 2 ^ k
last_bits k x xs within =
    let powers : 256 ≡ 2 ^ (8 - k) * 2 ^ k = ap (λ n. 2 ^ n) (let e : 8 ≡ 8 - k + k = omega arith in e) ∙ pow-add 2 (8 - k) k in
    let shape : number_in_base 256 (xs ++ x ∷ []) ≡ x + number_in_base 256 xs * 2 ^ (8 - k) * 2 ^ k =
    number_in_base-push 256 xs x ∙ ap (λ p. number_in_base 256 xs * p + x) powers ∙ omega arith in
    ap (λ n. n % 2 ^ k) shape ∙ add-mul-mod_self_right x (number_in_base 256 xs * 2 ^ (8 - k)) (2 ^ k)

-- i places of a string times 2 ^ left are made, a carry stands before them, and the places before that are as they were
pub record Multiplied (left top : ℕ) (old now : List ℕ) (i carry : ℕ) : Type 0 where
  pub small : carry < 256
  pub kept : (k : ℕ) → k < length old - i → get_or now k 0 ≡ get_or old k 0
  pub product : number_in_base 256 (drop (length old - i) now) + carry * 256 ^ i ≡ number_in_base 256 (drop (length old - i) old) * 2 ^ left + top

pub Multiplied-none : (left top : ℕ) (old : List ℕ) → top < 256 → Multiplied left top old old 0 top
Multiplied-none left top old small =
    let none : drop (length old - 0) old ≡ [] = drop_all (length old - 0) old (omega arith) in
    record {
      small = small;
      kept = λ k before. refl;
      product = rw (none, pow-zero) (omega arith);
    }

pub shifted-le : (left a : ℕ) → left ≤ 8 → a < 256 → a * 2 ^ left ≤ 65280
shifted-le left a within small =
    let power : 2 ^ left ≤ 2 ^ 8 = pow-le-pow_right {n = 2} (omega arith) {i = left} {j = 8} within in
    mul-le a (2 ^ left) 255 256 (omega arith) power

pub shifted-whole : (left a : ℕ) → left ≤ 8 → a < 256 → a * 2 ^ left % 4294967296 ≡ a * 2 ^ left
shifted-whole left a within small = let most = shifted-le left a within small in omega arith

pub Multiplied-more : (left top : ℕ) (old now : List ℕ) (i p carry a : ℕ) → left ≤ 8 → length old ≡ p + 1 + i → length now ≡ length old → a ≡ get_or old p 0 → a < 256 → Multiplied left top old now i carry → Multiplied left top old (set now p ((a * 2 ^ left + carry) % 256)) (i + 1) ((a * 2 ^ left + carry) / 256)
Multiplied-more left top old now i p carry a within len same_now is_a below_a so_far =
    let at_i : length old - i ≡ p + 1 = omega arith in
    let at_p : length old - (i + 1) ≡ p = omega arith in
    let product_i : number_in_base 256 (drop (p + 1) now) + carry * 256 ^ i ≡ number_in_base 256 (drop (p + 1) old) * 2 ^ left + top = rw at_i at so_far.product in
    let made = place_more 256 now p i (a * 2 ^ left) carry (number_in_base 256 (drop (p + 1) old) * 2 ^ left + top) (omega arith) product_i in
    let olds : number_in_base 256 (drop p old) ≡ a * 256 ^ i + number_in_base 256 (drop (p + 1) old) = number_at 256 old p i len ∙ ap (λ x. x * 256 ^ i + number_in_base 256 (drop (p + 1) old)) (sym is_a) in
    let times : number_in_base 256 (drop p old) * 2 ^ left ≡ (a * 256 ^ i + number_in_base 256 (drop (p + 1) old)) * 2 ^ left = ap (λ n. n * 2 ^ left) olds in
    let most = shifted-le left a within below_a in
    record {
      small = let carry_small = so_far.small in omega arith;
      kept = λ k before. let ne : k ≢ p = omega arith in get_or-set_other now p k ((a * 2 ^ left + carry) % 256) 0 ne ∙ so_far.kept k (omega arith);
      product = rw at_p (made ∙ omega arith);
    }

pub Multiplied-all : (left top : ℕ) (old now : List ℕ) (carry : ℕ) → length now ≡ length old → AllBelow 256 now → Multiplied left top old now (length old) carry → now ≡ digits_in_base 256 (length old) (number_in_base 256 old * 2 ^ left + top)
Multiplied-all left top old now carry same below done =
    let at_start : length old - length old ≡ 0 = omega arith in
    let product : number_in_base 256 now + carry * 256 ^ length old ≡ number_in_base 256 old * 2 ^ left + top = rw at_start at done.product in
    sym (digits_in_base-number 256 now carry below)
    ∙ ap (λ n. digits_in_base 256 n (carry * 256 ^ n + number_in_base 256 now)) same
    ∙ ap (digits_in_base 256 (length old)) (let e : carry * 256 ^ length old + number_in_base 256 now ≡ number_in_base 256 old * 2 ^ left + top = omega arith in e)

-- The first i bytes of a string divided by 2 ^ right are made, with a rest before the others, which are as they were.
pub record Divided (right top : ℕ) (old now : List ℕ) (i rest : ℕ) : Type 0 where
  pub small : rest < 2 ^ right
  pub kept : drop i now ≡ drop i old
  pub quotient : number_in_base 256 (take i now) * 2 ^ right + rest ≡ top * 256 ^ i + number_in_base 256 (take i old)

pub Divided-none : (right top : ℕ) (old : List ℕ) → top < 2 ^ right → Divided right top old old 0 top
Divided-none right top old small =
    record {
      small = small;
      kept = refl;
      quotient = rw pow-zero (omega arith);
    }

pub quotient_byte : (right rest x : ℕ) → rest < 2 ^ right → x < 256 → (rest * 256 + x) / 2 ^ right < 256
quotient_byte right rest x small byte =
    div_below (rest * 256 + x) (2 ^ right) 256 (pow_pos right) (omega arith)

divided_step : (n d rest x q r p old top : ℕ) → n * d + rest ≡ top * p + old → q * d + r ≡ rest * 256 + x → (n * 256 + q) * d + r ≡ top * (p * 256) + (old * 256 + x)
divided_step n d rest x q r p old top so_far split = omega arith

same_at : (i : ℕ) (xs ys : List ℕ) → drop i xs ≡ drop i ys → get_or xs i 0 ≡ get_or ys i 0
same_at i xs ys same =
    let at : i + 0 ≡ i = omega arith in
    ap (λ k. get_or xs k 0) (sym at) ∙ sym (get_or-drop i xs 0 0) ∙ ap (λ l. get_or l 0 0) same ∙ get_or-drop i ys 0 0 ∙ ap (λ k. get_or ys k 0) at

pub Divided-more : (right top : ℕ) (old now : List ℕ) (i rest x : ℕ) → i < length now → length now ≡ length old → x ≡ get_or now i 0 → Divided right top old now i rest → Divided right top old (set now i ((rest * 256 + x) / 2 ^ right)) (i + 1) ((rest * 256 + x) % 2 ^ right)
Divided-more right top old now i rest x inside same is_x so_far =
    let written : number_in_base 256 (take (i + 1) (set now i ((rest * 256 + x) / 2 ^ right))) ≡ number_in_base 256 (take i now) * 256 + (rest * 256 + x) / 2 ^ right =
    ap (number_in_base 256) (take_more_set now i ((rest * 256 + x) / 2 ^ right) inside) ∙ number_in_base-push 256 (take i now) ((rest * 256 + x) / 2 ^ right) in
    let here : get_or old i 0 ≡ x = sym (same_at i now old so_far.kept) ∙ sym is_x in
    let olds : number_in_base 256 (take (i + 1) old) ≡ number_in_base 256 (take i old) * 256 + x = number_in_base-more 256 old i (omega arith) ∙ ap (λ y. number_in_base 256 (take i old) * 256 + y) here in
    record {
      small = mod_below (rest * 256 + x) (2 ^ right) (pow_pos right);
      kept = drop-set-lt (i + 1) now i ((rest * 256 + x) / 2 ^ right) (omega arith) ∙ sym (drop-drop 1 i now) ∙ ap (drop 1) so_far.kept ∙ drop-drop 1 i old;
      quotient =
          ap (λ n. n * 2 ^ right + (rest * 256 + x) % 2 ^ right) written
          ∙ divided_step (number_in_base 256 (take i now)) (2 ^ right) rest x ((rest * 256 + x) / 2 ^ right) ((rest * 256 + x) % 2 ^ right) (256 ^ i) (number_in_base 256 (take i old)) top so_far.quotient (div-add-mod' (rest * 256 + x) (2 ^ right))
          ∙ sym (ap (λ p. top * p + (number_in_base 256 (take i old) * 256 + x)) (pow_more 256 i))
          ∙ sym (ap (λ n. top * 256 ^ (i + 1) + n) olds);
    }

pub Divided-all : (right top : ℕ) (old now : List ℕ) (rest : ℕ) → length now ≡ length old → AllBelow 256 now → Divided right top old now (length old) rest → now ≡ digits_in_base 256 (length old) ((top * 256 ^ length old + number_in_base 256 old) / 2 ^ right)
Divided-all right top old now rest same below done =
    let whole_now : take (length old) now ≡ now = take_all (length old) now (omega arith) in
    let whole_old : take (length old) old ≡ old = take_all (length old) old (omega arith) in
    let quotient : number_in_base 256 now * 2 ^ right + rest ≡ top * 256 ^ length old + number_in_base 256 old = rw (whole_now, whole_old) at done.quotient in
    let value : number_in_base 256 now ≡ (top * 256 ^ length old + number_in_base 256 old) / 2 ^ right =
    sym (div-mul-add (number_in_base 256 now) (2 ^ right) rest done.small) ∙ ap (λ n. n / 2 ^ right) quotient in
    sym (digits_in_base-number 256 now 0 below) ∙ ap (digits_in_base 256 (length now)) (let e : 0 * 256 ^ length now + number_in_base 256 now ≡ number_in_base 256 now = omega arith in e)
    ∙ ap (λ n. digits_in_base 256 n (number_in_base 256 now)) same ∙ ap (digits_in_base 256 (length old)) value

-- `1 << right` in 32 bits
pub unit_is : (right : ℕ) → right ≤ 8 → 1 * 2 ^ right % 4294967296 ≡ 2 ^ right
unit_is right within = one_shl right 32 (omega arith)

pub first_bits_of : (k : ℕ) (xs : List ℕ) → k ≤ 8 → 1 ≤ length xs → AllBelow 256 xs → number_in_base 256 xs / 2 ^ (8 * length xs - k) ≡ get_or xs 0 0 / 2 ^ (8 - k)
first_bits_of k [] within some below = absurd (omega arith)
first_bits_of k (b ∷ bs) within some below = first_bits k b bs within below

pub last_bits_of : (k : ℕ) (xs : List ℕ) → k ≤ 8 → 1 ≤ length xs → number_in_base 256 xs % 2 ^ k ≡ get_or xs (length xs - 1) 0 % 2 ^ k
last_bits_of k xs within some =
    let at : length xs - 1 + 1 ≡ length xs = omega arith in
    let whole : take (length xs - 1 + 1) xs ≡ xs = take_all (length xs - 1 + 1) xs (omega arith) in
    let parts : xs ≡ take (length xs - 1) xs ++ get_or xs (length xs - 1) 0 ∷ [] = sym whole ∙ take_more xs (length xs - 1) 0 (omega arith) in
    ap (λ l. number_in_base 256 l % 2 ^ k) parts ∙ last_bits k (get_or xs (length xs - 1) 0) (take (length xs - 1) xs) within
