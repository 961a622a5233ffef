-- Decimal digits as bytes.
use Rattle.std.specs.Prelude.{◌≡◌, ℕ, zero, suc, true, fold, slice_index, ◌<◌, ◌≤◌, ◌+◌, ◌-◌, ◌*◌, ◌/◌, ◌%◌, ◌^◌, ◌==◌, List, [], ◌∷◌, length, take}
use Rattle.b2_base.specs.Byte as byte
use Rattle.b2_base.specs.Lexical.{is_digit}
use Rattle.std.specs.List.{suffix_len}

-- the digit of n that counts 10 ^ k, as a byte
abbrev pub digit_byte : ℕ → ℕ → ℕ
digit_byte k n = byte.digit_0 + n / 10 ^ k % 10

-- the last k digits of n, with the zeros before them
unfoldable pub digit_bytes : ℕ → ℕ → List ℕ
digit_bytes zero n = []
digit_bytes (suc k) n = digit_byte k n ∷ digit_bytes k n

-- digits without the zeros at their end
abbrev pub without_last_zeros : List ℕ → List ℕ
without_last_zeros ds = take (length ds - suffix_len (λ d. d == byte.digit_0) ds) ds

-- each byte is a digit
pub record AreDigits (ds : List ℕ) : Type 0 where
  pub each : (k : ℕ) → k < length ds → is_digit (slice_index ds k) ≡ true

-- the number that digits write when they follow those of n
abbrev pub value_after : ℕ → List ℕ → ℕ
value_after n ds = fold (λ m d. 10 * m + (d - byte.digit_0)) n ds

-- the number that digits write
abbrev pub digits_value : List ℕ → ℕ
digits_value ds = value_after 0 ds

-- What the first digits say of a number: m is its whole part in units of 10 ^ r. There are fourteen at most, and as many
-- wherever digits are left out.
pub record IsLeading (n m r : ℕ) : Type 0 where
  pub low : m * 10 ^ r ≤ n
  pub high : n < (m + 1) * 10 ^ r
  pub enough : 0 < r → 10000000000000 ≤ m
  pub few : m < 100000000000000
