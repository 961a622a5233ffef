-- The number that the nibbles of a word spell, found in four steps.
use Rattle.std.proofs.Common.{◌≡◌, ℕ, ◌+◌, ◌-◌, ◌*◌, ◌/◌, ◌%◌, ◌^◌, ◌<◌, ◌≤◌, bit_and, sym, ap, ap₂, ◌∙◌, arith, lit<, lit≤, mod-eq_of_lt}
use Rattle.std.proofs.lemmas.Nat.{div-mul-add}
use Rattle.b2_dec.specs.Lanes.{rebased}
use Rattle.b2_dec.proofs.Slots.{slots, mask, rebased-slots, slots-same, slots-sum, slots-pairs, slots-two, slots-whole, slots-shifted}

-- two, four and eight nibbles as digits
abbrev pub two : ℕ → ℕ
two w = w / 16 % 16 * 10 + w % 16

abbrev pub four : ℕ → ℕ
four w = two (w / 256) * 100 + two w

abbrev pub eight : ℕ → ℕ
eight w = four (w / 65536) * 10000 + four w

two-most : (w : ℕ) → two w ≤ 165
two-most w = omega arith

four-most : (w : ℕ) → four w ≤ 16665
four-most w = omega (arith, two-most (w / 256), two-most w)

eight-most : (w : ℕ) → eight w ≤ 166666665
eight-most w = omega (arith, four-most (w / 65536), four-most w)

-- ---- two nibbles in each byte

high_nibbles : (w : ℕ) → w < 2 ^ 64 → bit_and (w / 16) 1085102592571150095 ≡ slots 256 256 (λ u. u / 16 % 16) 8 w
unfolding mask
high_nibbles w h =
    ap (λ u. bit_and (u / 16) 1085102592571150095) (sym (slots-whole 256 (lit< tt) 8 w h))
    ∙ slots-shifted 4 4 4 256 (λ u. u % 256) (lit≤ tt) (λ u. omega arith) 8 w
    ∙ slots-same 256 256 (λ u. u % 256 / 16 % 16) (λ u. u / 16 % 16) (λ u. omega arith) 8 w

pub read-pairs : (w : ℕ) → w < 2 ^ 64 → slots 256 256 two 8 w + 6 * bit_and (w / 16) 1085102592571150095 ≡ w
read-pairs w h =
    ap (λ u. slots 256 256 two 8 w + 6 * u) (high_nibbles w h) ∙ slots-sum 256 256 6 two (λ u. u / 16 % 16) 8 w
    ∙ slots-same 256 256 (λ u. two u + 6 * (u / 16 % 16)) (λ u. u % 256) (λ u. omega arith) 8 w
    ∙ slots-whole 256 (lit< tt) 8 w h

-- ---- two bytes as one part

pairs-bytes : (w : ℕ) → slots 256 256 two 8 w ≡ slots 65536 65536 (λ u. two (u / 256) * 256 + two u) 4 w
pairs-bytes w = slots-pairs 256 256 two 4 w

pairs-fit : (u : ℕ) → two (u / 256) * 256 + two u < 65536
pairs-fit u = omega (arith, two-most (u / 256), two-most u)

high_bytes : (w : ℕ) → bit_and (slots 256 256 two 8 w / 256) 71777214294589695 ≡ slots 65536 65536 (λ u. two (u / 256)) 4 w
unfolding mask
high_bytes w =
    ap (λ u. bit_and (u / 256) 71777214294589695) (pairs-bytes w)
    ∙ slots-shifted 8 8 8 65536 (λ u. two (u / 256) * 256 + two u) (lit≤ tt) pairs-fit 4 w
    ∙ slots-same 65536 65536 (λ u. (two (u / 256) * 256 + two u) / 256 % 256) (λ u. two (u / 256))
    (λ u. ap (λ t. t % 256) (div-mul-add (two (u / 256)) 256 (two u) (omega (arith, two-most u))) ∙ mod-eq_of_lt (omega (arith, two-most (u / 256)))) 4 w

read-fours : (w : ℕ) → slots 65536 65536 four 4 w + 156 * bit_and (slots 256 256 two 8 w / 256) 71777214294589695 ≡ slots 256 256 two 8 w
read-fours w =
    ap (λ t. slots 65536 65536 four 4 w + 156 * t) (high_bytes w) ∙ slots-sum 65536 65536 156 four (λ u. two (u / 256)) 4 w
    ∙ slots-same 65536 65536 (λ u. four u + 156 * two (u / 256)) (λ u. two (u / 256) * 256 + two u) (λ u. turned (two u) (two (u / 256))) 4 w
    ∙ sym (pairs-bytes w)
  where
    turned : (a b : ℕ) → b * 100 + a + 156 * b ≡ b * 256 + a
    turned a b = omega arith

-- ---- four bytes as one part

fours-pairs : (w : ℕ) → slots 65536 65536 four 4 w ≡ slots 4294967296 4294967296 (λ u. four (u / 65536) * 65536 + four u) 2 w
fours-pairs w = slots-pairs 65536 65536 four 2 w

fours-fit : (u : ℕ) → four (u / 65536) * 65536 + four u < 4294967296
fours-fit u = omega (arith, four-most (u / 65536), four-most u)

high_pairs : (w : ℕ) → bit_and (slots 65536 65536 four 4 w / 65536) 281470681808895 ≡ slots 4294967296 4294967296 (λ u. four (u / 65536)) 2 w
unfolding mask
high_pairs w =
    ap (λ u. bit_and (u / 65536) 281470681808895) (fours-pairs w)
    ∙ slots-shifted 16 16 16 4294967296 (λ u. four (u / 65536) * 65536 + four u) (lit≤ tt) fours-fit 2 w
    ∙ slots-same 4294967296 4294967296 (λ u. (four (u / 65536) * 65536 + four u) / 65536 % 65536) (λ u. four (u / 65536))
    (λ u. ap (λ t. t % 65536) (div-mul-add (four (u / 65536)) 65536 (four u) (omega (arith, four-most u))) ∙ mod-eq_of_lt (omega (arith, four-most (u / 65536)))) 2 w

read-eights : (w : ℕ) → slots 4294967296 4294967296 eight 2 w + 55536 * bit_and (slots 65536 65536 four 4 w / 65536) 281470681808895 ≡ slots 65536 65536 four 4 w
read-eights w =
    ap (λ t. slots 4294967296 4294967296 eight 2 w + 55536 * t) (high_pairs w) ∙ slots-sum 4294967296 4294967296 55536 eight (λ u. four (u / 65536)) 2 w
    ∙ slots-same 4294967296 4294967296 (λ u. eight u + 55536 * four (u / 65536)) (λ u. four (u / 65536) * 65536 + four u) (λ u. turned (four u) (four (u / 65536))) 2 w
    ∙ sym (fours-pairs w)
  where
    turned : (a b : ℕ) → b * 10000 + a + 55536 * b ≡ b * 65536 + a
    turned a b = omega arith

-- ---- the whole word

halves : (w : ℕ) → slots 4294967296 4294967296 eight 2 w ≡ eight (w / 4294967296) * 4294967296 + eight w
halves w = slots-two 4294967296 4294967296 eight w

digits : (w : ℕ) → rebased 16 10 16 w ≡ eight (w / 4294967296) * 100000000 + eight w
digits w =
    rebased-slots 16 10 16 w ∙ slots-pairs 10 16 (λ u. u % 16) 8 w ∙ slots-pairs 100 256 two 4 w ∙ slots-pairs 10000 65536 four 2 w
    ∙ slots-two 100000000 4294967296 eight w

read-all : (w : ℕ) → rebased 16 10 16 w + 4194967296 * (slots 4294967296 4294967296 eight 2 w / 4294967296) ≡ slots 4294967296 4294967296 eight 2 w
read-all w =
    let h : ℕ = eight (w / 4294967296) in
    let l : ℕ = eight w in
    let few : l < 4294967296 = omega (arith, eight-most w) in
    let high : slots 4294967296 4294967296 eight 2 w / 4294967296 ≡ h = ap (λ t. t / 4294967296) (halves w) ∙ div-mul-add h 4294967296 l few in
    ap₂ (λ s t. s + 4194967296 * t) (digits w) high ∙ turned l h ∙ sym (halves w)
  where
    turned : (a b : ℕ) → b * 100000000 + a + 4194967296 * b ≡ b * 4294967296 + a
    turned a b = omega arith

-- ---- as the code has them

pub fours-left : (w : ℕ) → slots 256 256 two 8 w - 156 * bit_and (slots 256 256 two 8 w / 256) 71777214294589695 ≡ slots 65536 65536 four 4 w
fours-left w = omega (arith, read-fours w)

pub eights-left : (w : ℕ) → slots 65536 65536 four 4 w - 55536 * bit_and (slots 65536 65536 four 4 w / 65536) 281470681808895 ≡ slots 4294967296 4294967296 eight 2 w
eights-left w = omega (arith, read-eights w)

pub all-left : (w : ℕ) → slots 4294967296 4294967296 eight 2 w - 4194967296 * (slots 4294967296 4294967296 eight 2 w / 4294967296) ≡ rebased 16 10 16 w
all-left w = omega (arith, read-all w)
