-- Decimal digits in a row of nibbles, with a nibble for the sign before them or after them, or with none.
use Rattle.std.specs.Prelude.{ℕ, suc, ◌+◌, ◌*◌, ◌/◌, ◌^◌, ◌==◌, ◌&&◌, ◌||◌, nat_le, nat_lt, Bool, true, false, not, if◌then◌else◌, List, [], ◌∷◌, ◌++◌, take, drop, get_or, Result, Ok, Err}
use Rattle.std.specs.List.{list_all}
use Rattle.b2_base.specs.Lexical.{first}
use Rattle.b2_base.specs.declared.codes.TheConstants.{X75_NOT_DECIMAL, X76_LOCATOR_OR_FIELD}
use Rattle.b2_dec.specs.declared.number.Mode.TheVariants.{Round}
use Rattle.b2_dec.specs.Number.{Number, size}
use Rattle.b2_dec.specs.Rounding.{rnd}
use Rattle.b2_pack.specs.declared.rows.TheConstants.{PLUS_NIBBLE, MINUS_NIBBLE}
use Rattle.b2_pack.specs.declared.rows.SignNibble.{SignNibble}
use Rattle.b2_pack.specs.declared.rows.SignNibble.TheVariants.{Absent, Before, After}
use Rattle.b2_pack.specs.declared.rows.Row.{Row}
use Rattle.b2_pack.specs.Nibbles.{nibbles, paired, last_digits, decimal_after, is_decimal_nibble}

-- the size of a number in units of its last decimal that is kept, of which the further ones are cut
abbrev pub cut_size : ℕ → Number → ℕ
cut_size decimals x = size x * 10 ^ decimals / 10 ^ 111

-- whether a row has a digit for each one that is left
abbrev pub row_fits : Row → Number → Bool
row_fits row x = nat_lt (cut_size row.decimals x) (10 ^ row.digits)

-- the nibble of a sign: 0 or 1 before the digits, C or D after them
abbrev pub sign_before : SignNibble → Bool → List ℕ
sign_before Absent neg = []
sign_before Before neg = (if neg then 1 else 0) ∷ []
sign_before After neg = []

abbrev pub sign_after : SignNibble → Bool → List ℕ
sign_after Absent neg = []
sign_after Before neg = []
sign_after After neg = (if neg then MINUS_NIBBLE else PLUS_NIBBLE) ∷ []

-- the nibbles of a number in a row, and the bytes that they make
abbrev pub row_nibbles : Row → Number → List ℕ
row_nibbles row x =
    sign_before row.sign x.neg ++ (last_digits row.digits (cut_size row.decimals x) ++ sign_after row.sign x.neg)

abbrev pub row_bytes : Row → Number → List ℕ
row_bytes row x = paired (row_nibbles row x)

-- how many nibbles a row has, and how many bytes
abbrev pub nibble_count : SignNibble → ℕ → ℕ
nibble_count Absent digits = digits
nibble_count Before digits = suc digits
nibble_count After digits = suc digits

abbrev pub row_length : Row → ℕ
row_length row = (nibble_count row.sign row.digits + 1) / 2

-- the digits among the nibbles of a row, and how many nibbles stand before them
abbrev pub digits_start : SignNibble → ℕ
digits_start Absent = 0
digits_start Before = 1
digits_start After = 0

abbrev pub digits_in : SignNibble → ℕ → List ℕ → List ℕ
digits_in sign digits ns = take digits (drop (digits_start sign) ns)

-- Whether all nibbles are digits, but for a sign after them. A sign before them is 0 or 1.
abbrev pub are_digits : SignNibble → ℕ → List ℕ → Bool
are_digits Absent digits ns = list_all is_decimal_nibble ns
are_digits Before digits ns = nat_le (first ns) 1 && list_all is_decimal_nibble ns
are_digits After digits ns = list_all is_decimal_nibble (take digits ns)

-- whether the sign after the digits is C or D
abbrev pub ends_in_sign : SignNibble → ℕ → List ℕ → Bool
ends_in_sign Absent digits ns = true
ends_in_sign Before digits ns = true
ends_in_sign After digits ns = (get_or ns digits 0 == PLUS_NIBBLE) || (get_or ns digits 0 == MINUS_NIBBLE)

-- whether the sign is that of a number below zero
abbrev pub is_below_zero : SignNibble → ℕ → List ℕ → Bool
is_below_zero Absent digits ns = false
is_below_zero Before digits ns = first ns == 1
is_below_zero After digits ns = get_or ns digits 0 == MINUS_NIBBLE

-- a number that is too large is refused as its sign is
abbrev pub within_range : Result Number ℕ → Result Number ℕ
within_range (Ok x) = Ok x
within_range (Err code) = Err X76_LOCATOR_OR_FIELD

-- The number in a row of nibbles, of thirteen digits after rounding. Digits that are all 0 are zero under either sign.
abbrev pub nibbles_number : Row → List ℕ → Result Number ℕ
nibbles_number row ns =
    if not (are_digits row.sign row.digits ns) then Err X75_NOT_DECIMAL
    else (if not (ends_in_sign row.sign row.digits ns) then Err X76_LOCATOR_OR_FIELD
    else within_range (rnd Round (is_below_zero row.sign row.digits ns) (decimal_after 0 (digits_in row.sign row.digits ns)) (10 ^ row.decimals)))

abbrev pub number_of_row : Row → List ℕ → Result Number ℕ
number_of_row row bytes = nibbles_number row (nibbles bytes)
