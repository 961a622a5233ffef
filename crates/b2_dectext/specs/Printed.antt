-- How a number is shown.
use Rattle.std.specs.Prelude.{◌≡◌, ℕ, ◌+◌, ◌-◌, ◌*◌, ◌/◌, ◌==◌, ◌&&◌, ◌||◌, nat_le, nat_lt, Bool, if◌then◌else◌, List, [], ◌∷◌, ◌++◌, length, take, drop}
use Rattle.b2_base.specs.Byte as byte
use Rattle.b2_dec.specs.Number.{Number}
use Rattle.b2_dectext.specs.Digits.{digit_bytes, without_last_zeros}

-- a point and digits after it, or nothing where there is no digit
abbrev pub after_point : List ℕ → List ℕ
after_point [] = []
after_point (d ∷ ds) = byte.point ∷ d ∷ ds

-- digits with a point after the first n, and without the last zeros after it
unfoldable pub with_point : ℕ → List ℕ → List ℕ
with_point n ds = take n ds ++ after_point (without_last_zeros (drop n ds))

-- the first nine digits with a point after the first one
unfoldable pub nine_digits : List ℕ → List ℕ
nine_digits ds = take 1 ds ++ (byte.point ∷ take 8 (drop 1 ds))

-- E, the sign and the two digits of an exponent. The last digit stands at 99 where the exponent is 0.
unfoldable pub exponent_shown : ℕ → List ℕ
exponent_shown place = if nat_lt place 99 then byte.upper_e ∷ byte.minus ∷ digit_bytes 2 (99 - place) else byte.upper_e ∷ byte.plus ∷ digit_bytes 2 (place - 99)

-- Sizes from 0.1 to below 10^13 are shown without an exponent. Their last digits stand at 98 to 111, and place - 98 of the
-- thirteen digits before the point.
abbrev pub is_fixed : ℕ → Bool
is_fixed place = nat_le 98 place && nat_le place 111

-- a number without its sign
unfoldable pub shown_size : Number → List ℕ
shown_size x =
    if x.coef == 0 then byte.digit_0 ∷ []
    else (if is_fixed x.place then with_point (x.place - 98) (digit_bytes 13 x.coef)
    else nine_digits (digit_bytes 13 x.coef) ++ exponent_shown x.place)

-- the byte of a sign: `-`, or a space
abbrev pub sign_shown : Bool → ℕ
sign_shown neg = if neg then byte.minus else byte.blank

-- the printed form: the sign's byte, the size, one space
unfoldable pub printed : Number → List ℕ
printed x = (sign_shown x.neg ∷ []) ++ shown_size x ++ (byte.blank ∷ [])

-- the printed form without its outer spaces
abbrev pub without_spaces : Number → List ℕ
without_spaces x = (if x.neg then byte.minus ∷ [] else []) ++ shown_size x

-- whether a number is shown without an exponent
abbrev pub is_plain : Number → Bool
is_plain x = (x.coef == 0) || is_fixed x.place

-- The number that is shown: with an exponent the last four of its thirteen digits are left out, and count as 0.
abbrev pub as_shown : Number → Number
as_shown x = if is_plain x then x else record x { coef = x.coef / 10000 * 10000 }

-- A text was put into a place of fixed size: after the first `at` bytes, which stay, as do those after its end.
pub record IsPut (text : List ℕ) (at : ℕ) (before after : List ℕ) (end : ℕ) : Type 0 where
  pub len : end ≡ at + length text
  pub front : take end after ≡ take at before ++ text
  pub rest : drop end after ≡ drop end before
