-- The digits of a number in the nibbles of a word, found in three steps.
use Rattle.std.proofs.Common.{◌≡◌, ℕ, ◌+◌, ◌*◌, ◌/◌, ◌%◌, ◌^◌, ◌<◌, ◌≤◌, bit_and, sym, ap, ap₂, ◌∙◌, arith, lit≤, div-one, mod-eq_of_lt}
use Rattle.std.proofs.lemmas.Nat.{and_le_r}
use Rattle.b2_dec.specs.Lanes.{rebased}
use Rattle.b2_dec.proofs.Slots.{slots, mask, rebased-slots, slots-same, slots-sum, slots-pairs, slots-masked, slots-shifted, slots-most}

-- ---- four parts of four digits

pub fours : (h l : ℕ) → h < 10 ^ 8 → l < 10 ^ 8
    → h * 4294967296 + l + 55536 * (h / 10000 * 4294967296 + l / 10000) ≡ rebased 10000 65536 4 (h * 10 ^ 8 + l)
unfolding rebased
fours h l few less =
    let top : (h * 10 ^ 8 + l) / 10000 / 10000 / 10000 % 10000 ≡ h / 10000 = omega arith in
    let next : (h * 10 ^ 8 + l) / 10000 / 10000 % 10000 ≡ h % 10000 = omega arith in
    let third : (h * 10 ^ 8 + l) / 10000 % 10000 ≡ l / 10000 = omega arith in
    let last : (h * 10 ^ 8 + l) % 10000 ≡ l % 10000 = omega arith in
    rw (top, next, third, last) (omega arith)

-- ---- eight parts of two digits

-- eight digits in two parts
abbrev halved : ℕ → ℕ
halved u = u / 10000 % 10000 * 65536 + u % 10000

halved-fit : (u : ℕ) → halved u < 4294967296
halved-fit u = omega arith

fours-halves : (n : ℕ) → rebased 10000 65536 4 n ≡ slots 4294967296 100000000 halved 2 n
fours-halves n = rebased-slots 10000 65536 4 n ∙ slots-pairs 65536 10000 (λ u. u % 10000) 2 n

low_fours : (n : ℕ) → bit_and (rebased 10000 65536 4 n) 281470681808895 ≡ slots 4294967296 100000000 (λ u. u % 10000) 2 n
unfolding mask
low_fours n =
    ap (λ t. bit_and t 281470681808895) (fours-halves n ∙ sym (div-one _))
    ∙ slots-shifted 0 32 16 100000000 halved (lit≤ tt) halved-fit 2 n
    ∙ slots-same 4294967296 100000000 (λ u. halved u / 1 % 65536) (λ u. u % 10000) (λ u. omega arith) 2 n

high_fours : (n : ℕ) → bit_and (rebased 10000 65536 4 n / 65536) 281470681808895 ≡ slots 4294967296 100000000 (λ u. u / 10000 % 10000) 2 n
unfolding mask
high_fours n =
    ap (λ t. bit_and (t / 65536) 281470681808895) (fours-halves n)
    ∙ slots-shifted 16 16 16 100000000 halved (lit≤ tt) halved-fit 2 n
    ∙ slots-same 4294967296 100000000 (λ u. halved u / 65536 % 65536) (λ u. u / 10000 % 10000) (λ u. omega arith) 2 n

-- a hundredth by a product
hundredth : (r : ℕ) → r < 10000 → r * 5243 / 524288 % 128 ≡ r / 100
hundredth r h = let near : r * 5243 / 524288 ≡ r / 100 = omega arith in omega arith

low_hundreds : (n : ℕ) → bit_and (bit_and (rebased 10000 65536 4 n) 281470681808895 * 5243 / 524288) 545460846719 ≡ slots 4294967296 100000000 (λ u. u / 100 % 100) 2 n
unfolding mask
low_hundreds n =
    ap (λ t. bit_and (t * 5243 / 524288) 545460846719) (low_fours n)
    ∙ slots-masked 19 13 7 5243 100000000 (λ u. u % 10000) (lit≤ tt) (λ u. omega arith) 2 n
    ∙ slots-same 4294967296 100000000 (λ u. u % 10000 * 5243 / 524288 % 128) (λ u. u / 100 % 100) (λ u. hundredth (u % 10000) (omega arith) ∙ omega arith) 2 n

high_hundreds : (n : ℕ) → bit_and (bit_and (rebased 10000 65536 4 n / 65536) 281470681808895 * 5243 / 524288) 545460846719 ≡ slots 4294967296 100000000 (λ u. u / 10000 / 100 % 100) 2 n
unfolding mask
high_hundreds n =
    ap (λ t. bit_and (t * 5243 / 524288) 545460846719) (high_fours n)
    ∙ slots-masked 19 13 7 5243 100000000 (λ u. u / 10000 % 10000) (lit≤ tt) (λ u. omega arith) 2 n
    ∙ slots-same 4294967296 100000000 (λ u. u / 10000 % 10000 * 5243 / 524288 % 128) (λ u. u / 10000 / 100 % 100)
    (λ u. hundredth (u / 10000 % 10000) (omega arith) ∙ omega arith) 2 n

-- four digits in two parts
abbrev quartered : ℕ → ℕ
quartered u = u / 100 % 100 * 256 + u % 100

pairs-quarters : (n : ℕ) → rebased 100 256 8 n ≡ slots 65536 10000 quartered 4 n
pairs-quarters n = rebased-slots 100 256 8 n ∙ slots-pairs 256 100 (λ u. u % 100) 4 n

parted : (u : ℕ) → u % 10000 + 156 * (u / 100 % 100) ≡ quartered u
parted u = omega arith

pairs : (n e o : ℕ) → e ≡ slots 4294967296 100000000 (λ u. u / 100 % 100) 2 n → o ≡ slots 4294967296 100000000 (λ u. u / 10000 / 100 % 100) 2 n
    → rebased 10000 65536 4 n + 156 * (e + o * 65536) ≡ rebased 100 256 8 n
pairs n e o low high =
    let inner : e + 65536 * o ≡ slots 4294967296 100000000 (λ u. u / 100 % 100 + 65536 * (u / 10000 / 100 % 100)) 2 n =
    ap₂ (λ s t. s + 65536 * t) low high ∙ slots-sum 4294967296 100000000 65536 (λ u. u / 100 % 100) (λ u. u / 10000 / 100 % 100) 2 n in
    let turned : e + o * 65536 ≡ e + 65536 * o = omega arith in
    ap₂ (λ s t. s + 156 * t) (fours-halves n) (turned ∙ inner)
    ∙ slots-sum 4294967296 100000000 156 halved (λ u. u / 100 % 100 + 65536 * (u / 10000 / 100 % 100)) 2 n
    ∙ slots-same 4294967296 100000000 (λ u. halved u + 156 * (u / 100 % 100 + 65536 * (u / 10000 / 100 % 100))) (λ u. quartered (u / 10000) * 65536 + quartered u)
    (λ u. omega (arith, parted u, parted (u / 10000))) 2 n
    ∙ sym (pairs-quarters n ∙ slots-pairs 65536 10000 quartered 2 n)

-- ---- sixteen digits

quartered-fit : (u : ℕ) → quartered u < 65536
quartered-fit u = omega arith

low_twos : (n : ℕ) → bit_and (rebased 100 256 8 n) 71777214294589695 ≡ slots 65536 10000 (λ u. u % 100) 4 n
unfolding mask
low_twos n =
    ap (λ t. bit_and t 71777214294589695) (pairs-quarters n ∙ sym (div-one _))
    ∙ slots-shifted 0 16 8 10000 quartered (lit≤ tt) quartered-fit 4 n
    ∙ slots-same 65536 10000 (λ u. quartered u / 1 % 256) (λ u. u % 100) (λ u. omega arith) 4 n

high_twos : (n : ℕ) → bit_and (rebased 100 256 8 n / 256) 71777214294589695 ≡ slots 65536 10000 (λ u. u / 100 % 100) 4 n
unfolding mask
high_twos n =
    ap (λ t. bit_and (t / 256) 71777214294589695) (pairs-quarters n)
    ∙ slots-shifted 8 8 8 10000 quartered (lit≤ tt) quartered-fit 4 n
    ∙ slots-same 65536 10000 (λ u. quartered u / 256 % 256) (λ u. u / 100 % 100) (λ u. omega arith) 4 n

-- a tenth by a product
tenth : (r : ℕ) → r < 100 → r * 103 / 1024 % 16 ≡ r / 10
tenth r h = let near : r * 103 / 1024 ≡ r / 10 = omega arith in omega arith

low_tens : (n : ℕ) → bit_and (bit_and (rebased 100 256 8 n) 71777214294589695 * 103 / 1024) 4222189076152335 ≡ slots 65536 10000 (λ u. u / 10 % 10) 4 n
unfolding mask
low_tens n =
    ap (λ t. bit_and (t * 103 / 1024) 4222189076152335) (low_twos n)
    ∙ slots-masked 10 6 4 103 10000 (λ u. u % 100) (lit≤ tt) (λ u. omega arith) 4 n
    ∙ slots-same 65536 10000 (λ u. u % 100 * 103 / 1024 % 16) (λ u. u / 10 % 10) (λ u. tenth (u % 100) (omega arith) ∙ omega arith) 4 n

high_tens : (n : ℕ) → bit_and (bit_and (rebased 100 256 8 n / 256) 71777214294589695 * 103 / 1024) 4222189076152335 ≡ slots 65536 10000 (λ u. u / 100 / 10 % 10) 4 n
unfolding mask
high_tens n =
    ap (λ t. bit_and (t * 103 / 1024) 4222189076152335) (high_twos n)
    ∙ slots-masked 10 6 4 103 10000 (λ u. u / 100 % 100) (lit≤ tt) (λ u. omega arith) 4 n
    ∙ slots-same 65536 10000 (λ u. u / 100 % 100 * 103 / 1024 % 16) (λ u. u / 100 / 10 % 10) (λ u. tenth (u / 100 % 100) (omega arith) ∙ omega arith) 4 n

-- two digits in two nibbles
abbrev pub paired : ℕ → ℕ
paired u = u / 10 % 10 * 16 + u % 10

pub nibbles-bytes : (n : ℕ) → rebased 10 16 16 n ≡ slots 256 100 paired 8 n
nibbles-bytes n = rebased-slots 10 16 16 n ∙ slots-pairs 16 10 (λ u. u % 10) 8 n

split : (u : ℕ) → u % 100 + 6 * (u / 10 % 10) ≡ paired u
split u = omega arith

nibbles : (n e o : ℕ) → e ≡ slots 65536 10000 (λ u. u / 10 % 10) 4 n → o ≡ slots 65536 10000 (λ u. u / 100 / 10 % 10) 4 n
    → rebased 100 256 8 n + 6 * (e + o * 256) ≡ rebased 10 16 16 n
nibbles n e o low high =
    let inner : e + 256 * o ≡ slots 65536 10000 (λ u. u / 10 % 10 + 256 * (u / 100 / 10 % 10)) 4 n =
    ap₂ (λ s t. s + 256 * t) low high ∙ slots-sum 65536 10000 256 (λ u. u / 10 % 10) (λ u. u / 100 / 10 % 10) 4 n in
    let turned : e + o * 256 ≡ e + 256 * o = omega arith in
    ap₂ (λ s t. s + 6 * t) (pairs-quarters n) (turned ∙ inner)
    ∙ slots-sum 65536 10000 6 quartered (λ u. u / 10 % 10 + 256 * (u / 100 / 10 % 10)) 4 n
    ∙ slots-same 65536 10000 (λ u. quartered u + 6 * (u / 10 % 10 + 256 * (u / 100 / 10 % 10))) (λ u. paired (u / 100) * 256 + paired u)
    (λ u. omega (arith, split u, split (u / 100))) 4 n
    ∙ sym (nibbles-bytes n ∙ slots-pairs 256 100 paired 4 n)

-- ---- what fits

pub pairs-most : (n : ℕ) → rebased 100 256 8 n < 2 ^ 64
pairs-most n = rw (rebased-slots 100 256 8 n) (slots-most 256 100 (λ u. u % 100) (λ u. omega arith) 8 n)

pub nibbles-most : (n : ℕ) → rebased 10 16 16 n < 2 ^ 64
nibbles-most n = rw (rebased-slots 10 16 16 n) (slots-most 16 10 (λ u. u % 10) (λ u. omega arith) 16 n)

-- ---- as the code has them

pub pairs-code : (n w : ℕ) → w ≡ rebased 10000 65536 4 n
    → w + 156 * (bit_and (bit_and w 281470681808895 * 5243 / 524288) 545460846719
    + bit_and (bit_and (w / 65536) 281470681808895 * 5243 / 524288) 545460846719 * 65536 % 18446744073709551616) ≡ rebased 100 256 8 n
pairs-code n w e =
    let even : ℕ = bit_and (bit_and w 281470681808895 * 5243 / 524288) 545460846719 in
    let odd : ℕ = bit_and (bit_and (w / 65536) 281470681808895 * 5243 / 524288) 545460846719 in
    let small : odd ≤ 545460846719 = and_le_r (bit_and (w / 65536) 281470681808895 * 5243 / 524288) 545460846719 in
    let whole : odd * 65536 % 18446744073709551616 ≡ odd * 65536 = mod-eq_of_lt (omega arith) in
    ap (λ t. w + 156 * (even + t)) whole ∙ ap (λ t. t + 156 * (even + odd * 65536)) e
    ∙ pairs n even odd (ap (λ t. bit_and (bit_and t 281470681808895 * 5243 / 524288) 545460846719) e ∙ low_hundreds n)
    (ap (λ t. bit_and (bit_and (t / 65536) 281470681808895 * 5243 / 524288) 545460846719) e ∙ high_hundreds n)

pub nibbles-code : (n w : ℕ) → w ≡ rebased 100 256 8 n
    → w + 6 * (bit_and (bit_and w 71777214294589695 * 103 / 1024) 4222189076152335
    + bit_and (bit_and (w / 256) 71777214294589695 * 103 / 1024) 4222189076152335 * 256 % 18446744073709551616) ≡ rebased 10 16 16 n
nibbles-code n w e =
    let even : ℕ = bit_and (bit_and w 71777214294589695 * 103 / 1024) 4222189076152335 in
    let odd : ℕ = bit_and (bit_and (w / 256) 71777214294589695 * 103 / 1024) 4222189076152335 in
    let small : odd ≤ 4222189076152335 = and_le_r (bit_and (w / 256) 71777214294589695 * 103 / 1024) 4222189076152335 in
    let whole : odd * 256 % 18446744073709551616 ≡ odd * 256 = mod-eq_of_lt (omega arith) in
    ap (λ t. w + 6 * (even + t)) whole ∙ ap (λ t. t + 6 * (even + odd * 256)) e
    ∙ nibbles n even odd (ap (λ t. bit_and (bit_and t 71777214294589695 * 103 / 1024) 4222189076152335) e ∙ low_tens n)
    (ap (λ t. bit_and (bit_and (t / 256) 71777214294589695 * 103 / 1024) 4222189076152335) e ∙ high_tens n)
