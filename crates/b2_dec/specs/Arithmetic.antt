-- What each call gives, as an exact number that is then rounded.
use Rattle.std.specs.Prelude.{zero, suc, nat_le, nat_abs, neg_ℤ, false, ℕ, ◌+◌, ◌-◌, ◌*◌, ◌/◌, ◌%◌, ◌^◌, ◌==◌, ◌&&◌, int_le, ℤ, pos, negsuc, Option, Some, None, ◌+ℤ◌, ◌-ℤ◌, ◌*ℤ◌, Bool, if◌then◌else◌, Result, Ok, Err}
use Rattle.b2_base.specs.declared.codes.TheConstants.{P34_RANGE, C62_ZERO_DIVISOR, C63_ZERO_BY_ZERO, C66_ROOT}
use Rattle.b2_dec.specs.declared.number.Mode.{Mode}
use Rattle.b2_dec.specs.declared.number.Mode.TheVariants.{Round, Cut}
use Rattle.b2_dec.specs.Number.{Number, zero_number, value, size, signed, differ}
use Rattle.b2_dec.specs.Rounding.{whole_by, rnd, rounded}

-- the sum and the difference, of which 10^111 make one
abbrev pub sum_of : Mode → Number → Number → Result Number ℕ
sum_of mode a b = rounded mode (value a +ℤ value b) (10 ^ 111)

abbrev pub difference_of : Mode → Number → Number → Result Number ℕ
difference_of mode a b = rounded mode (value a -ℤ value b) (10 ^ 111)

-- the product, of which 10^222 make one
abbrev pub product_of : Mode → Number → Number → Result Number ℕ
product_of mode a b = rounded mode (value a *ℤ value b) (10 ^ 222)

-- The quotient. Zero by zero comes before any other zero divisor.
abbrev pub quotient_of : Mode → Number → Number → Result Number ℕ
quotient_of mode a b =
    if b.coef == 0 then (if a.coef == 0 then Err C63_ZERO_BY_ZERO else Err C62_ZERO_DIVISOR)
    else rnd mode (differ a.neg b.neg) (size a) (size b)

-- the whole number below a fraction, or the fraction itself where it is whole
abbrev pub floored : ℤ → ℕ → ℤ
floored (pos n) d = pos (n / d)
floored (negsuc n) d = negsuc (n / d)

-- the least whole number not below a fraction that is above zero
abbrev pub whole_above : ℕ → ℕ → ℕ
whole_above n d = (n - 1) / d + 1

-- the greatest whole number not above a number
abbrev pub int_of : Number → Result Number ℕ
int_of x = rounded Cut (floored (value x) (10 ^ 111)) 1

-- the number without its fraction
abbrev pub fix_of : Number → Result Number ℕ
fix_of x = rnd Cut x.neg (size x / 10 ^ 111) 1

-- a whole number of 64 bits with a sign
abbrev pub fits_64 : ℤ → Bool
fits_64 z = int_le (negsuc 9223372036854775807) z && int_le z (pos 9223372036854775807)

-- the whole number that a number is, where it is one of 64 bits with a sign
abbrev pub whole_of : Number → Option ℤ
whole_of x =
    let z = signed x.neg (size x / 10 ^ 111) in
    if size x % 10 ^ 111 == 0 && fits_64 z then Some z else None

-- one, with the sign of a number
abbrev pub sign_of : Number → Number
sign_of x = if x.coef == 0 then zero_number else record { neg = x.neg; coef = 1000000000000; place = 99 }

-- the whole number below the quotient of two
abbrev pub floor_of : ℤ → ℤ → ℤ
floor_of x (pos d) = floored x d
floor_of x (negsuc d) = floored (neg_ℤ x) (suc d)

-- what is left of a number by another one: it has the sign of that one
abbrev pub modulo_of : Mode → Number → Number → Result Number ℕ
modulo_of mode a b =
    if b.coef == 0 then Err C62_ZERO_DIVISOR
    else rounded mode (value a -ℤ value b *ℤ floor_of (value a) (value b)) (10 ^ 111)

-- the place of the last digit that is kept, where n of them stand after the point
abbrev pub place_after_point : ℤ → ℕ
place_after_point n = nat_abs (pos 111 -ℤ n)

-- the nearest multiple of 10^-n, a half away from zero, for n from -99 to 99
abbrev pub multiple_of : Number → ℤ → Result Number ℕ
multiple_of a n =
    if int_le (negsuc 98) n && int_le n (pos 99)
    then (let unit = 10 ^ place_after_point n in rnd Cut a.neg (whole_by Round (size a) unit * unit) (10 ^ 111))
    else Err P34_RANGE

-- the greatest whole number whose square is not above a number
unfoldable pub root : ℕ → ℕ
root zero = 0
root (suc n) = if nat_le ((root n + 1) * (root n + 1)) (suc n) then root n + 1 else root n

-- the root of a number: that of its size, in units of 10^-111, cut to thirteen digits
abbrev pub root_of : Number → Result Number ℕ
root_of a = if a.neg then Err C66_ROOT else rnd Cut false (root (size a * 10 ^ 111)) (10 ^ 111)

abbrev pub one_number : Number
one_number = record { neg = false; coef = 1000000000000; place = 99 }

-- what follows on a number, where there is one
abbrev pub onwards : Result Number ℕ → (Number → Result Number ℕ) → Result Number ℕ
onwards (Ok x) f = f x
onwards (Err e) f = Err e

-- a number multiplied n times by another one, and rounded each time
abbrev pub times : Mode → ℕ → Number → Number → Result Number ℕ
times mode zero a p = Ok p
times mode (suc n) a p = onwards (product_of mode p a) (times mode n a)

-- one multiplied n times by a number; zero has no power of zero
abbrev pub power_of : Mode → Number → ℕ → Result Number ℕ
power_of mode a n = if a.coef == 0 && n == 0 then Err C63_ZERO_BY_ZERO else times mode n a one_number
