-- How a number is written, and which number a text begins with.
use Rattle.std.specs.Prelude.{ℕ, ◌+◌, ◌*◌, ◌^◌, ◌==◌, ◌||◌, min, Bool, if◌then◌else◌, Option, Some, None, Result, Ok, Err, List, [], ◌++◌, length, take, drop}
use Rattle.std.specs.List.{prefix_len}
use Rattle.b2_base.specs.Byte as byte
use Rattle.b2_base.specs.Lexical.{first, digits_width}
use Rattle.b2_dec.specs.declared.number.Mode.TheVariants.{Round}
use Rattle.b2_dec.specs.Number.{Number}
use Rattle.b2_dec.specs.Rounding.{rnd}
use Rattle.b2_dectext.specs.Digits.{digits_value}

-- 1 where a text begins with `+` or `-`
unfoldable pub sign_len : List ℕ → ℕ
sign_len text = if first text == byte.plus || first text == byte.minus then 1 else 0

-- a text without the sign that it begins with
abbrev pub unsigned : List ℕ → List ℕ
unsigned text = drop (sign_len text) text

-- the digits at the front
unfoldable pub whole_part : List ℕ → List ℕ
whole_part text = take (digits_width text) text

-- the digits after the point, where a text begins with one
unfoldable pub fraction_part : List ℕ → List ℕ
fraction_part text = if first text == byte.point then take (digits_width (drop 1 text)) (drop 1 text) else []

-- how many bytes are a point and the digits after it
abbrev pub point_len : List ℕ → ℕ
point_len text = if first text == byte.point then 1 + length (fraction_part text) else 0

-- how many bytes are digits with a point or without one; a point alone is none
unfoldable pub mantissa_len : List ℕ → ℕ
mantissa_len text =
    let after = drop (digits_width text) text in
    if digits_width text + length (fraction_part after) == 0 then 0 else digits_width text + point_len after

-- the digits of an exponent, of which there are two at most
unfoldable pub exponent_digits : List ℕ → List ℕ
exponent_digits text =
    let digits = unsigned (drop 1 text) in
    if first text == byte.upper_e then take (min (digits_width digits) 2) digits else []

-- how many bytes are E, perhaps a sign, and one or two digits
unfoldable pub exponent_len : List ℕ → ℕ
exponent_len text =
    if length (exponent_digits text) == 0 then 0 else 1 + sign_len (drop 1 text) + length (exponent_digits text)

-- the length of the longest number at the front of a text, 0 where there is none
unfoldable pub number_len : List ℕ → ℕ
number_len text =
    let body = unsigned text in
    if mantissa_len body == 0 then 0 else sign_len text + mantissa_len body + exponent_len (drop (mantissa_len body) body)

-- The parts of a number that is written: whether `-` stands first, the digits before and after the point, whether `-`
-- stands in the exponent, and its digits.
pub record Parts : Type 0 where
  pub neg : Bool
  pub whole : List ℕ
  pub fraction : List ℕ
  pub exponent_neg : Bool
  pub exponent : List ℕ

-- what the exponent says: by how many tens the digits are multiplied, and divided
abbrev pub tens_up : Parts → ℕ
tens_up p = if p.exponent_neg then 0 else digits_value p.exponent

abbrev pub tens_down : Parts → ℕ
tens_down p = length p.fraction + (if p.exponent_neg then digits_value p.exponent else 0)

-- The number of such parts is the fraction of its digits and its exponent, rounded to thirteen digits, a half away from
-- zero; C60 and C61 where it is too small or too large.
unfoldable pub parts_value : Parts → Result Number ℕ
parts_value p = rnd Round p.neg (digits_value (p.whole ++ p.fraction) * 10 ^ tens_up p) (10 ^ tens_down p)

-- the parts of the number at the front of a text
unfoldable pub parts_of : List ℕ → Parts
parts_of text =
    let body = unsigned text in
    let rest = drop (mantissa_len body) body in
    record {
      neg = first text == byte.minus;
      whole = whole_part body;
      fraction = fraction_part (drop (digits_width body) body);
      exponent_neg = first (drop 1 rest) == byte.minus;
      exponent = exponent_digits rest;
    }

-- the number at the front of a text
abbrev pub number_value : List ℕ → Result Number ℕ
number_value text = parts_value (parts_of text)

-- the number in a result
abbrev pub in_result : Result Number ℕ → Option Number
in_result (Ok x) = Some x
in_result (Err code) = None

-- the number that is read at the front of a text, where there is one in range
unfoldable pub number_read : List ℕ → Option Number
number_read text = if number_len text == 0 then None else in_result (number_value text)

-- how many spaces a text begins with
abbrev pub spaces_len : List ℕ → ℕ
spaces_len text = prefix_len (λ b. b == byte.blank) text

-- the length of spaces, a number and spaces at the front of a text, 0 where there is no number
unfoldable pub spaced_number_len : List ℕ → ℕ
spaced_number_len text =
    let number = number_len (drop (spaces_len text) text) in
    if number == 0 then 0 else spaces_len text + number + spaces_len (drop (spaces_len text + number) text)
