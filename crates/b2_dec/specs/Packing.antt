-- A number in eight bytes.
use Rattle.std.specs.Prelude.{◌≡◌, ℕ, zero, suc, ◌+◌, ◌-◌, ◌*◌, ◌/◌, ◌%◌, ◌^◌, nat_lt, if◌then◌else◌, List, [], ◌∷◌}
use Rattle.b2_base.specs.Lexical.{decimal_of, decimal_byte}
use Rattle.b2_dec.specs.Number.{Number, IsNumber}

-- the size of the exponent, which is 0 where the last digit stands at 99
abbrev pub exponent_size : Number → ℕ
exponent_size x = if nat_lt x.place 99 then 99 - x.place else x.place - 99

-- the nibble of the two signs: 1 for the number's and 8 for the exponent's
abbrev pub signs : Number → ℕ
signs x = (if x.neg then 1 else 0) + (if nat_lt x.place 99 then 8 else 0)

-- fifteen digits: two of the exponent's size and thirteen of the number
abbrev pub packed_digits : Number → ℕ
packed_digits x = exponent_size x * 10000000000000 + x.coef

-- the last 2 · k digits, two in a byte
abbrev pub pairs : ℕ → ℕ → List ℕ
pairs zero n = []
pairs (suc k) n = decimal_byte (n / 100 ^ k % 100) ∷ pairs k n

-- the nibble of the signs, and the digits
abbrev pub packed : Number → List ℕ
packed x = (16 * signs x + packed_digits x / 100000000000000) ∷ pairs 7 (packed_digits x)

-- the number that the digits in bytes spell when they follow those of n
abbrev pub pairs_value : ℕ → List ℕ → ℕ
pairs_value n [] = n
pairs_value n (b ∷ bs) = pairs_value (n * 100 + decimal_of b) bs

-- the three nibbles of the signs and of the exponent's size
abbrev pub head : Number → ℕ
head x = signs x * 256 + decimal_byte (exponent_size x)

-- all sixteen digits as one number: that of the signs, and the others
abbrev pub all_digits : Number → ℕ
all_digits x = signs x * 1000000000000000 + packed_digits x

-- Bytes that are a packed number.
pub record IsPacked (bytes : List ℕ) : Type 0 where
  pub number : Number
  pub is_number : IsNumber number
  pub spelled : bytes ≡ packed number
