-- A byte by its bits, and two bytes joined by the four bits of a digit.
use Rattle.std.proofs.Common.{◌≡◌, ℕ, zero, suc, ◌+◌, ◌-◌, ◌*◌, ◌%◌, ◌^◌, ◌<◌, ◌≤◌, bit_and, bit_or, bit_xor, min, max, w8, List, [], ◌∷◌, refl, sym, ap, ◌∙◌, arith}
use Rattle.std.specs.Int.{bit_at}
use Rattle.std.specs.List.{sum_by, range_with_len}
use Rattle.std.proofs.lemmas.Nat.{or_lt, xor_lt, and_le_l, and_le_r}
use Rattle.std.proofs.lemmas.Nat.Bits.{bit_at-zero, bit_at_and, bit_at_or, bit_at_xor, bit_at_not, bit_at_ones, bit_at-lt}
use Rattle.b2_alpha.specs.Values.{each_pair}
use Rattle.b2_alpha.specs.Bits.{bit_by, byte_by}
use Rattle.b2_alpha.proofs.PlaceValues.{AllBelow, tail_below}

-- a byte is the sum of its bits
byte_of_bits : (x : ℕ) → x < 256 → x ≡ sum_by (λ i. bit_at x i * 2 ^ i) (range_with_len 0 8)
byte_of_bits x small = omega arith

-- the same bits are the same byte
same_bits : (f g : ℕ → ℕ) → ((i : ℕ) → i < 8 → f i ≡ g i) → sum_by (λ i. f i * 2 ^ i) (range_with_len 0 8) ≡ sum_by (λ i. g i * 2 ^ i) (range_with_len 0 8)
same_bits f g same =
    let b0 = same 0 (omega arith) in
    let b1 = same 1 (omega arith) in
    let b2 = same 2 (omega arith) in
    let b3 = same 3 (omega arith) in
    let b4 = same 4 (omega arith) in
    let b5 = same 5 (omega arith) in
    let b6 = same 6 (omega arith) in
    let b7 = same 7 (omega arith) in
    omega arith

-- a byte whose bits are those that the digit gives is the joined byte
pub byte_by_bits : (digit r o x : ℕ) → x < 256 → ((i : ℕ) → i < 8 → bit_at x i ≡ bit_by digit (bit_at r i) (bit_at o i)) → x ≡ byte_by digit r o
byte_by_bits digit r o x small bits = byte_of_bits x small ∙ same_bits (bit_at x) (λ i. bit_by digit (bit_at r i) (bit_at o i)) bits

-- all ones or all zeros
mask_bit : (b i : ℕ) → b < 2 → i < 8 → bit_at (255 * b) i ≡ b
mask_bit zero i small inside = bit_at-zero i
mask_bit (suc zero) i small inside = bit_at_ones 8 i inside
mask_bit (suc (suc b)) i small inside = absurd (omega arith)

-- one of the four masks is chosen by the two bits
chosen : (m : ℕ → ℕ) → ((k : ℕ) → m k ≤ 1) → (r o : ℕ) → r ≤ 1 → o ≤ 1 → max (max (max (min (min (m 0) (1 - r)) (1 - o)) (min (min (m 1) (1 - r)) o)) (min (min (m 2) r) (1 - o))) (min (min (m 3) r) o) ≡ m (2 * r + o)
chosen m small zero zero rs os = let a = small 0 in omega arith
chosen m small zero (suc zero) rs os = let a = small 1 in omega arith
chosen m small (suc zero) zero rs os = let a = small 2 in omega arith
chosen m small (suc zero) (suc zero) rs os = let a = small 3 in omega arith
chosen m small (suc (suc r)) o rs os = absurd (omega arith)
chosen m small zero (suc (suc o)) rs os = absurd (omega arith)
chosen m small (suc zero) (suc (suc o)) rs os = absurd (omega arith)

bit_le : (n i : ℕ) → bit_at n i ≤ 1
bit_le n i = let lt : bit_at n i < 2 = bit_at-lt n i in omega arith

abbrev pub masked : (digit r o : ℕ) → ℕ
masked digit r o =
    bit_or (bit_or (bit_or (bit_and (bit_and (255 * bit_at digit 0) (255 - r)) (255 - o)) (bit_and (bit_and (255 * bit_at digit 1) (255 - r)) o)) (bit_and (bit_and (255 * bit_at digit 2) r) (255 - o))) (bit_and (bit_and (255 * bit_at digit 3) r) o)

pub masked_bit : (digit r o : ℕ) → r < 256 → o < 256 → (i : ℕ) → i < 8 → bit_at (masked digit r o) i ≡ bit_by digit (bit_at r i) (bit_at o i)
masked_bit digit r o rs os i inside =
    let not_r : bit_at (255 - r) i ≡ 1 - bit_at r i = bit_at_not w8 r i rs inside in
    let not_o : bit_at (255 - o) i ≡ 1 - bit_at o i = bit_at_not w8 o i os inside in
    simp (bit_at_or, bit_at_and, not_r, not_o, mask_bit (bit_at digit 0) i (bit_at-lt digit 0) inside, mask_bit (bit_at digit 1) i (bit_at-lt digit 1) inside, mask_bit (bit_at digit 2) i (bit_at-lt digit 2) inside, mask_bit (bit_at digit 3) i (bit_at-lt digit 3) inside)
    (chosen (bit_at digit) (bit_le digit) (bit_at r i) (bit_at o i) (bit_le r i) (bit_le o i))

under : (m r o : ℕ) → r < 256 → bit_and (bit_and m r) o < 2 ^ 8
under m r o small =
    let a : bit_and (bit_and m r) o ≤ bit_and m r = and_le_l (bit_and m r) o in
    let b : bit_and m r ≤ r = and_le_r m r in
    omega arith

pub masked-lt : (digit r o : ℕ) → r < 256 → o < 256 → masked digit r o < 256
masked-lt digit r o rs os =
    or_lt 8 _ _ (or_lt 8 _ _ (or_lt 8 _ _ (under (255 * bit_at digit 0) (255 - r) (255 - o) (omega arith)) (under (255 * bit_at digit 1) (255 - r) o (omega arith))) (under (255 * bit_at digit 2) r (255 - o) rs)) (under (255 * bit_at digit 3) r o rs)

-- where two functions of bytes are one, so are they along two strings
pub each_pair-same : (f g : ℕ → ℕ → ℕ) → ((x y : ℕ) → x < 256 → y < 256 → f x y ≡ g x y) → (xs ys : List ℕ) → AllBelow 256 xs → AllBelow 256 ys → each_pair f xs ys ≡ each_pair g xs ys
each_pair-same f g same [] ys below_xs below_ys = refl
each_pair-same f g same (x ∷ xs) [] below_xs below_ys = refl
each_pair-same f g same (x ∷ xs) (y ∷ ys) below_xs below_ys =
    ap (λ z. z ∷ each_pair f xs ys) (same x y (below_xs 0) (below_ys 0))
    ∙ ap (λ l. g x y ∷ l) (each_pair-same f g same xs ys (tail_below 256 x xs below_xs) (tail_below 256 y ys below_ys))

-- what the digits of AND, OR and XOR give for two bits
and_bit : (r o : ℕ) → r ≤ 1 → o ≤ 1 → min r o ≡ bit_at 8 (2 * r + o)
and_bit zero zero rs os = refl
and_bit zero (suc zero) rs os = refl
and_bit (suc zero) zero rs os = refl
and_bit (suc zero) (suc zero) rs os = refl
and_bit (suc (suc r)) o rs os = absurd (omega arith)
and_bit zero (suc (suc o)) rs os = absurd (omega arith)
and_bit (suc zero) (suc (suc o)) rs os = absurd (omega arith)

or_bit : (r o : ℕ) → r ≤ 1 → o ≤ 1 → max r o ≡ bit_at 14 (2 * r + o)
or_bit zero zero rs os = refl
or_bit zero (suc zero) rs os = refl
or_bit (suc zero) zero rs os = refl
or_bit (suc zero) (suc zero) rs os = refl
or_bit (suc (suc r)) o rs os = absurd (omega arith)
or_bit zero (suc (suc o)) rs os = absurd (omega arith)
or_bit (suc zero) (suc (suc o)) rs os = absurd (omega arith)

xor_bit : (r o : ℕ) → r ≤ 1 → o ≤ 1 → (r + o) % 2 ≡ bit_at 6 (2 * r + o)
xor_bit zero zero rs os = refl
xor_bit zero (suc zero) rs os = refl
xor_bit (suc zero) zero rs os = refl
xor_bit (suc zero) (suc zero) rs os = refl
xor_bit (suc (suc r)) o rs os = absurd (omega arith)
xor_bit zero (suc (suc o)) rs os = absurd (omega arith)
xor_bit (suc zero) (suc (suc o)) rs os = absurd (omega arith)

pub byte_by-8 : (r o : ℕ) → r < 256 → o < 256 → byte_by 8 r o ≡ bit_and r o
byte_by-8 r o rs os =
    let small : bit_and r o < 256 = let le = and_le_l r o in omega arith in
    sym (byte_by_bits 8 r o (bit_and r o) small (λ i inside. bit_at_and r o i ∙ and_bit (bit_at r i) (bit_at o i) (bit_le r i) (bit_le o i)))

pub byte_by-e : (r o : ℕ) → r < 256 → o < 256 → byte_by 14 r o ≡ bit_or r o
byte_by-e r o rs os = sym (byte_by_bits 14 r o (bit_or r o) (or_lt 8 r o rs os) (λ i inside. bit_at_or r o i ∙ or_bit (bit_at r i) (bit_at o i) (bit_le r i) (bit_le o i)))

pub byte_by-6 : (r o : ℕ) → r < 256 → o < 256 → byte_by 6 r o ≡ bit_xor r o
byte_by-6 r o rs os = sym (byte_by_bits 6 r o (bit_xor r o) (xor_lt 8 r o rs os) (λ i inside. bit_at_xor r o i ∙ xor_bit (bit_at r i) (bit_at o i) (bit_le r i) (bit_le o i)))
