-- What a result with more than thirteen digits becomes: the rounding of an exact fraction of whole numbers.
use Rattle.std.specs.Prelude.{ℕ, zero, suc, ◌+◌, ◌-◌, ◌*◌, ◌/◌, ◌^◌, ◌==◌, ◌<◌, ◌≤◌, nat_le, nat_lt, ℤ, pos, negsuc, Bool, true, false, if◌then◌else◌, Result, Ok, Err}
use Rattle.b2_base.specs.declared.codes.TheConstants.{C60_UNDERFLOW, C61_OVERFLOW}
use Rattle.b2_dec.specs.declared.number.Mode.{Mode}
use Rattle.b2_dec.specs.declared.number.Mode.TheVariants.{Round, Cut}
use Rattle.b2_dec.specs.Number.{Number, zero_number}

-- the whole number that n / d becomes: the nearest one, a half going up, or its whole part
abbrev pub whole_by : Mode → ℕ → ℕ → ℕ
whole_by Round n d = (2 * n + d) / (2 * d)
whole_by Cut n d = n / d

-- the least place, of those up to a highest one, at which n / d is below 10 ^ (13 + place)
unfoldable pub place_of : ℕ → ℕ → ℕ → ℕ
place_of zero n d = 0
place_of (suc k) n d = if nat_le (10 ^ (13 + k) * d) n then suc k else place_of k n d

-- Thirteen digits whose last one stands at a place from 10^-222 are a number where that place is from 10^-111 to 10^87.
abbrev pub in_range : Bool → ℕ → ℕ → Result Number ℕ
in_range neg coef place =
    if nat_lt place 111 then Err C60_UNDERFLOW
    else (if nat_lt 309 place then Err C61_OVERFLOW
    else Ok (record { neg = neg; coef = coef; place = place - 111 }))

-- Where rounding leads to 10^13, the thirteen digits are 10^12 at the next place.
abbrev pub after_carry : Bool → ℕ → ℕ → Result Number ℕ
after_carry neg coef place =
    if coef == 10000000000000 then in_range neg 1000000000000 (place + 1) else in_range neg coef place

-- What thirteen digits n / d, counted in units of 10^-222, become: the digits are found at the place where thirteen of
-- them stand before the point, and only then does it count whether the exponent is too small or too large.
unfoldable pub of_units : Mode → Bool → ℕ → ℕ → Result Number ℕ
of_units mode neg n d = let place = place_of 310 n d in after_carry neg (whole_by mode n (10 ^ place * d)) place

-- The number of thirteen digits that a fraction becomes, of a sign and of the size n / d. 10^-222 is the last digit of
-- the smallest product, and smaller than any digit of a number.
unfoldable pub rnd : Mode → Bool → ℕ → ℕ → Result Number ℕ
rnd mode neg n d = if n == 0 then Ok zero_number else of_units mode neg (n * 10 ^ 222) d

-- the same of a whole number with its sign over d
abbrev pub rounded : Mode → ℤ → ℕ → Result Number ℕ
rounded mode (pos n) d = rnd mode false n d
rounded mode (negsuc n) d = rnd mode true (suc n) d

-- m is the whole part of n / d in units of 10 ^ b, counted from 10^-222.
pub record IsWholePart (m b n d : ℕ) : Type 0 where
  pub low : m * (10 ^ b * d) ≤ n * 10 ^ 222
  pub high : n * 10 ^ 222 < (m + 1) * (10 ^ b * d)
