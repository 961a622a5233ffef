-- What operators and functions give of numbers is a number.
use Rattle.std.proofs.Common.{ℕ, zero, suc, ◌*◌, ◌/◌, ◌^◌, ◌<◌, ◌==◌, ◌&&◌, nat_le, int_le, Bool, true, false, if◌then◌else◌, ℤ, pos, negsuc, ◌+ℤ◌, ◌-ℤ◌, ◌*ℤ◌, List, ◌++◌, length, take, Option, Some, None, Result, Ok, Err, ap, inl, inr, lit≤, lit<, arith, mul-pos}
use Rattle.std.proofs.lemmas.Bool.{cases_Bool, eqb-false}
use Rattle.b2_base.specs.Byte as byte
use Rattle.b2_base.specs.declared.codes.TheConstants.{C62_ZERO_DIVISOR, C63_ZERO_BY_ZERO, C65_EXPONENT, C66_ROOT, P34_RANGE, S17_NUMERIC}
use Rattle.b2_dec.specs.declared.number.Mode.{Mode}
use Rattle.b2_dec.specs.declared.number.Mode.TheVariants.{Round, Cut}
use Rattle.b2_dec.specs.Arithmetic.{floor_of, floored, int_of, fix_of, modulo_of, multiple_of, place_after_point, root, one_number, onwards, power_of, product_of, quotient_of, root_of, sign_of, times, difference_of, sum_of, whole_of}
use Rattle.b2_dec.specs.Number.{Number, zero_number, IsNumber, differ, size, value}
use Rattle.b2_dec.specs.Rounding.{rnd, rounded, whole_by}
use Rattle.b2_dec.proofs.TenLemmas.{ten_pos}
use Rattle.b2_dectext.specs.Digits.{digits_value}
use Rattle.b2_dectext.specs.NumberText.{number_len, number_value, parts_of, parts_value, tens_down, tens_up}
use Rattle.b2_alpha.specs.Places.{number_in_base}
use Rattle.b2_atom.specs.declared.words.TheConstants as word
use Rattle.b2_atom.specs.Words.{Text}
use Rattle.b2_expr.specs.Answers.{Answer, ◌>>=◌}
use Rattle.b2_expr.specs.Functions.{extreme, fixed, is_below, number_of, of_one, of_two, rounded_to, whole_number}
use Rattle.b2_expr.specs.Operators.{joined, raised, raised_by, under_sign}
use Rattle.b2_expr.specs.Value.{literal_value, signed_by}
use Rattle.b2_stmt_file.specs.SavedNumbers.{GivesNumber}
use Rattle.b2_stmt_file.proofs.Rounded.{rnd_gives, zero_is_number}

-- one of two answers
pub either_gives : (b : Bool) (x y : Answer) → GivesNumber x → GivesNumber y → GivesNumber (if b then x else y)
either_gives true x y h k = h
either_gives false x y h k = k

-- what comes of an answer
pub then_gives : {A : Type 0} (r : Result A ℕ) (next : A → Answer) → ((x : A) → GivesNumber (next x)) → GivesNumber (r >>= next)
then_gives (Ok x) next h = h x
then_gives (Err code) next h = tt

pub number_then : (r : Answer) (next : Number → Answer) → GivesNumber r → ((x : Number) → IsNumber x → GivesNumber (next x)) → GivesNumber (r >>= next)
number_then (Ok x) next is h = h x is
number_then (Err code) next is h = tt

pub rounded_gives : (mode : Mode) (z : ℤ) (d : ℕ) → 0 < d → GivesNumber (rounded mode z d)
rounded_gives mode (pos n) d some = rnd_gives mode false n d some
rounded_gives mode (negsuc n) d some = rnd_gives mode true (suc n) d some

pub sum_gives : (mode : Mode) (a b : Number) → GivesNumber (sum_of mode a b)
sum_gives mode a b = rounded_gives mode (value a +ℤ value b) (10 ^ 111) (ten_pos 111)

pub difference_gives : (mode : Mode) (a b : Number) → GivesNumber (difference_of mode a b)
difference_gives mode a b = rounded_gives mode (value a -ℤ value b) (10 ^ 111) (ten_pos 111)

pub product_gives : (mode : Mode) (a b : Number) → GivesNumber (product_of mode a b)
product_gives mode a b = rounded_gives mode (value a *ℤ value b) (10 ^ 222) (ten_pos 222)

quotient_gives : (mode : Mode) (a b : Number) → GivesNumber (quotient_of mode a b)
quotient_gives mode a b =
    elim (cases_Bool (b.coef == 0)) [
      | inl none ↦ rw none (either_gives (a.coef == 0) (Err C63_ZERO_BY_ZERO) (Err C62_ZERO_DIVISOR) tt tt)
      | inr some ↦
          let differs = eqb-false b.coef 0 some in
          rw some (rnd_gives mode (differ a.neg b.neg) (size a) (size b) (mul-pos (omega (arith, differs)) (ten_pos b.place)))
    ]

pub one_is_number : IsNumber one_number
one_is_number = record { digits = lit≤ tt; highest = lit≤ tt; spelling = λ h. absurd (omega arith) }

pub onwards_gives : (r : Answer) (f : Number → Answer) → GivesNumber r → ((x : Number) → IsNumber x → GivesNumber (f x)) → GivesNumber (onwards r f)
onwards_gives (Ok x) f is h = h x is
onwards_gives (Err code) f is h = tt

times_give : (mode : Mode) (n : ℕ) (a p : Number) → IsNumber p → GivesNumber (times mode n a p)
times_give mode zero a p is = is
times_give mode (suc n) a p is = onwards_gives (product_of mode p a) (times mode n a) (product_gives mode p a) (λ x is_x. times_give mode n a x is_x)

power_gives : (mode : Mode) (a : Number) (n : ℕ) → GivesNumber (power_of mode a n)
power_gives mode a n = either_gives (a.coef == 0 && n == 0) (Err C63_ZERO_BY_ZERO) (times mode n a one_number) tt (times_give mode n a one_number one_is_number)

raised_gives : (mode : Mode) (a : Number) (z : Option ℤ) → GivesNumber (raised_by mode a z)
raised_gives mode a None = tt
raised_gives mode a (Some (pos n)) = either_gives (nat_le n 255) (power_of mode a n) (Err C65_EXPONENT) (power_gives mode a n) tt
raised_gives mode a (Some (negsuc n)) = tt

-- what joins two
pub joined_gives : (mode : Mode) (c : ℕ) (a b : Number) → GivesNumber (joined mode c a b)
joined_gives mode c a b =
    let powers = raised mode a b in
    let quotients = if c == byte.slash then quotient_of mode a b else powers in
    let products = if c == byte.asterisk then product_of mode a b else quotients in
    let differences = if c == byte.minus then difference_of mode a b else products in
    either_gives (c == byte.plus) (sum_of mode a b) differences (sum_gives mode a b)
    (either_gives (c == byte.minus) (difference_of mode a b) products (difference_gives mode a b)
    (either_gives (c == byte.asterisk) (product_of mode a b) quotients (product_gives mode a b)
    (either_gives (c == byte.slash) (quotient_of mode a b) powers (quotient_gives mode a b) (raised_gives mode a (whole_of b)))))

pub signed_gives : (mode : Mode) (n c : ℕ) (x : Number) → IsNumber x → GivesNumber (signed_by mode n c x)
signed_gives mode n c x is =
    either_gives (n == 1) (under_sign mode c x) (Ok x) (either_gives (c == byte.minus) (difference_of mode zero_number x) (Ok x) (difference_gives mode zero_number x) is) is

-- functions of one number
without_sign : (x : Number) → IsNumber x → IsNumber (record x { neg = false })
without_sign x is = record { digits = is.digits; highest = is.highest; spelling = λ h. ap (λ (y : Number). record y { neg = false }) (is.spelling h) }

sign_gives : (x : Number) → IsNumber (sign_of x)
sign_gives x =
    elim (cases_Bool (x.coef == 0)) [
      | inl none ↦ rw none zero_is_number
      | inr some ↦ rw some (record { digits = lit≤ tt; highest = lit≤ tt; spelling = λ h. absurd (omega arith) })
    ]

root_gives : (x : Number) → GivesNumber (root_of x)
root_gives x = either_gives x.neg (Err C66_ROOT) (rnd Cut false (root (size x * 10 ^ 111)) (10 ^ 111)) tt (rnd_gives Cut false (root (size x * 10 ^ 111)) (10 ^ 111) (ten_pos 111))

pub of_one_gives : (c : ℕ) (x : Number) → IsNumber x → GivesNumber (of_one c x)
of_one_gives c x is =
    let signs = if c == word.SGN_OPEN then Ok (sign_of x) else root_of x in
    let fixes = if c == word.FIX_OPEN then fix_of x else signs in
    let wholes = if c == word.INT_OPEN then int_of x else fixes in
    either_gives (c == word.ABS_OPEN) (Ok (record x { neg = false })) wholes (without_sign x is)
    (either_gives (c == word.INT_OPEN) (int_of x) fixes (rounded_gives Cut (floored (value x) (10 ^ 111)) 1 (lit< tt))
    (either_gives (c == word.FIX_OPEN) (fix_of x) signs (rnd_gives Cut x.neg (size x / 10 ^ 111) 1 (lit< tt))
    (either_gives (c == word.SGN_OPEN) (Ok (sign_of x)) (root_of x) (sign_gives x) (root_gives x))))

-- of two
multiple_gives : (a : Number) (n : ℤ) → GivesNumber (multiple_of a n)
multiple_gives a n =
    let unit = 10 ^ place_after_point n in
    let nearest = rnd Cut a.neg (whole_by Round (size a) unit * unit) (10 ^ 111) in
    either_gives (int_le (negsuc 98) n && int_le n (pos 99)) nearest (Err P34_RANGE) (rnd_gives Cut a.neg (whole_by Round (size a) unit * unit) (10 ^ 111) (ten_pos 111)) tt

modulo_gives : (mode : Mode) (a b : Number) → GivesNumber (modulo_of mode a b)
modulo_gives mode a b =
    let left = value a -ℤ value b *ℤ floor_of (value a) (value b) in
    either_gives (b.coef == 0) (Err C62_ZERO_DIVISOR) (rounded mode left (10 ^ 111)) tt (rounded_gives mode left (10 ^ 111) (ten_pos 111))

rounded_to_gives : (x : Number) (n : Option ℤ) → GivesNumber (rounded_to x n)
rounded_to_gives x None = tt
rounded_to_gives x (Some n) = multiple_gives x n

pub of_two_gives : (mode : Mode) (c : ℕ) (x y : Number) → GivesNumber (of_two mode c x y)
of_two_gives mode c x y = either_gives (c == word.ROUND_OPEN) (rounded_to x (fixed y)) (modulo_of mode x y) (rounded_to_gives x (fixed y)) (modulo_gives mode x y)

-- the greater and the lesser
one_of_both : (b : Bool) (x y : Number) → IsNumber x → IsNumber y → IsNumber (if b then x else y)
one_of_both true x y h k = h
one_of_both false x y h k = k

pub extreme_is_number : (c : ℕ) (x y : Number) → IsNumber x → IsNumber y → IsNumber (extreme c x y)
extreme_is_number c x y h k = one_of_both (c == word.MAX_OPEN) (if is_below x y then y else x) (if is_below x y then x else y) (one_of_both (is_below x y) y x k h) (one_of_both (is_below x y) x y h k)

-- whole numbers, and those that are written out
pub whole_gives : (n : ℕ) → GivesNumber (whole_number n)
whole_gives n = rnd_gives Cut false n 1 (lit< tt)

pub number_of_gives : (bytes : List ℕ) (n : ℕ) → GivesNumber (number_of bytes n)
number_of_gives bytes n =
    let whole = number_in_base 256 (take n bytes) in
    either_gives (nat_le n (length bytes)) (whole_number whole) (Err P34_RANGE) (whole_gives whole) tt

pub parts_give : (text : Text) → GivesNumber (number_value text)
unfolding parts_value
parts_give text =
    let p = parts_of text in
    rnd_gives Round p.neg (digits_value (p.whole ++ p.fraction) * 10 ^ tens_up p) (10 ^ tens_down p) (ten_pos (tens_down p))

pub literal_gives : (text : Text) → GivesNumber (literal_value text)
literal_gives text = either_gives (number_len text == 0) (Err S17_NUMERIC) (number_value text) tt (parts_give text)
