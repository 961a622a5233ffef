-- What a value becomes in a field.
use Rattle.std.specs.Prelude.{ℕ, zero, suc, ◌+◌, ◌*◌, ◌/◌, ◌%◌, ◌^◌, ◌==◌, ◌||◌, nat_le, Bool, not, if◌then◌else◌, List, [], ◌∷◌, ◌++◌, replicate, count_by}
use Rattle.b2_base.specs.Byte as byte
use Rattle.b2_dec.specs.Number.{Number, size}
use Rattle.b2_dec.specs.declared.values.Value.{Value}
use Rattle.b2_dec.specs.declared.values.Value.TheVariants as value
use Rattle.b2_dectext.specs.declared.field_parts.Sign.{Sign}
use Rattle.b2_dectext.specs.declared.field_parts.Sign.TheVariants.{Unsigned, Always, Negative}
use Rattle.b2_alpha.specs.Values.{padded}
use Rattle.b2_dectext.specs.FieldParts.{is_hash, right_aligned}
use Rattle.b2_print.specs.Images.{Field, field_width, dollar_bytes}

-- Sizes are counted in units of 10^-111. The digit that counts 10^k, as a byte:
abbrev pub whole_digit : Number → ℕ → ℕ
whole_digit x k = byte.digit_0 + size x / 10 ^ (111 + k) % 10

-- the k-th digit after the point, counted from 1
abbrev pub decimal_digit : Number → ℕ → ℕ
decimal_digit x k = byte.digit_0 + size x * 10 ^ k / 10 ^ 111 % 10

-- whether the size of a number is 10^k or more
abbrev pub reaches : Number → ℕ → Bool
reaches x k = nat_le (10 ^ (111 + k)) (size x)

-- whether a number has a digit at 10^k: up to its first one, and one before the point in any case
abbrev pub has_digit : Number → ℕ → Bool
has_digit x k = (k == 0) || reaches x k

-- what a place shows that counts 10^k
abbrev pub place_byte : Number → ℕ → ℕ → ℕ
place_byte x k place = if is_hash place then whole_digit x k else place

-- how many digits the places of a field have
abbrev pub hash_count : List ℕ → ℕ
hash_count places = count_by is_hash places

-- The digits before the point in their places. A `#` counts ten to the number of `#` to its right. A place that is left
-- of the first digit shows nothing.
abbrev pub whole_text : Number → List ℕ → List ℕ
whole_text x [] = []
whole_text x (c ∷ cs) =
    if has_digit x (hash_count cs) then place_byte x (hash_count cs) c ∷ whole_text x cs
    else whole_text x cs

-- n digits after the point, from the k-th on
abbrev pub digits_from : Number → ℕ → ℕ → List ℕ
digits_from x k zero = []
digits_from x k (suc n) = decimal_digit x k ∷ digits_from x (k + 1) n

-- the point and the digits after it, of which the further ones are dropped
abbrev pub point_filled : Number → ℕ → List ℕ
point_filled x zero = []
point_filled x (suc n) = byte.point ∷ digits_from x 1 (suc n)

-- the sign of a number, as a field shows it
abbrev pub sign_filled : Sign → Bool → List ℕ
sign_filled Unsigned neg = []
sign_filled Always neg = (if neg then byte.minus else byte.plus) ∷ []
sign_filled Negative neg = (if neg then byte.minus else byte.blank) ∷ []

-- what a field shows of a number: sign, `$`, digits
abbrev pub number_text : Field → Number → List ℕ
number_text f x = sign_filled f.sign x.neg ++ dollar_bytes f.dollar ++ whole_text x f.whole ++ point_filled x f.decimals

-- whether a field has a `#` for each digit before the point
abbrev pub fits : Field → Number → Bool
fits f x = not (reaches x (hash_count f.whole))

-- a number in a field, which it fills with `#` where it doesn't fit
abbrev pub number_filled : Field → Number → List ℕ
number_filled f x = if fits f x then right_aligned (field_width f) (number_text f x) else replicate (field_width f) byte.number_sign

abbrev pub filled : Field → Value → List ℕ
filled f (value.Number x) = number_filled f x
filled f (value.Alpha a) = padded (field_width f) a
