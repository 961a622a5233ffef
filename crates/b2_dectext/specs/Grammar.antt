-- The grammar of number text, by its parts and with no word on how it is read.
use Rattle.std.specs.Prelude.{◌≡◌, ℕ, ◌+◌, ◌<◌, ◌≤◌, Bool, true, false, Option, Some, None, Result, List, [], ◌∷◌, ◌++◌, length, take, slice_index}
use Rattle.b2_base.specs.Byte as byte
use Rattle.b2_dectext.specs.Digits.{AreDigits}
use Rattle.b2_dec.specs.Number.{Number}
use Rattle.b2_dectext.specs.NumberText.{Parts, parts_value}

pub data Sign : Type 0 where
  unsigned : Sign
  plus : Sign
  minus : Sign

-- perhaps a sign, perhaps digits, perhaps a point and digits, perhaps E with a sign or none and digits
pub record Spelling : Type 0 where
  pub sign : Sign
  pub whole : List ℕ
  pub fraction : Option (List ℕ)
  pub exponent_sign : Sign
  pub exponent : List ℕ

abbrev pub sign_text : Sign → List ℕ
sign_text unsigned = []
sign_text plus = byte.plus ∷ []
sign_text minus = byte.minus ∷ []

abbrev pub point_text : Option (List ℕ) → List ℕ
point_text None = []
point_text (Some ds) = byte.point ∷ ds

-- an exponent without digits is not written
abbrev pub exponent_text : Sign → List ℕ → List ℕ
exponent_text s [] = []
exponent_text s (d ∷ ds) = byte.upper_e ∷ (sign_text s ++ d ∷ ds)

-- the text that such parts spell
abbrev pub spelling_text : Spelling → List ℕ
spelling_text s = sign_text s.sign ++ (s.whole ++ (point_text s.fraction ++ exponent_text s.exponent_sign s.exponent))

-- the digits after the point
abbrev pub fraction_digits : Option (List ℕ) → List ℕ
fraction_digits None = []
fraction_digits (Some ds) = ds

-- There is a digit before the exponent, and the exponent has two at most.
pub record IsSpelling (s : Spelling) : Type 0 where
  pub whole : AreDigits s.whole
  pub fraction : AreDigits (fraction_digits s.fraction)
  pub some : 0 < length s.whole + length (fraction_digits s.fraction)
  pub exponent : AreDigits s.exponent
  pub few : length s.exponent ≤ 2

-- whether a sign is `-`
abbrev pub is_minus : Sign → Bool
is_minus unsigned = false
is_minus plus = false
is_minus minus = true

-- the parts that a spelling means
abbrev pub parts : Spelling → Parts
parts s = record {
  neg = is_minus s.sign;
  whole = s.whole;
  fraction = fraction_digits s.fraction;
  exponent_neg = is_minus s.exponent_sign;
  exponent = s.exponent;
}

-- a text that is a number, whole, and which number it is
pub record IsNumberText (text : List ℕ) (number : Result Number ℕ) : Type 0 where
  pub spelling : Spelling
  pub fine : IsSpelling spelling
  pub text_is : spelling_text spelling ≡ text
  pub value : parts_value (parts spelling) ≡ number

-- n is the length of the longest number at the front of a text, and 0 where none stands there.
pub record IsLongest (text : List ℕ) (n : ℕ) (number : Result Number ℕ) : Type 0 where
  pub found : 0 < n → IsNumberText (take n text) number
  pub longest : (k : ℕ) (other : Result Number ℕ) → k ≤ length text → IsNumberText (take k text) other → k ≤ n

-- each byte is a space
pub record AreSpaces (bs : List ℕ) : Type 0 where
  pub each : (k : ℕ) → k < length bs → slice_index bs k ≡ byte.blank

-- spaces, a number and spaces, and nothing else
pub record IsSpacedNumber (text : List ℕ) : Type 0 where
  pub before : List ℕ
  pub number : List ℕ
  pub after : List ℕ
  pub which : Result Number ℕ
  pub spaces_before : AreSpaces before
  pub is_number : IsNumberText number which
  pub spaces_after : AreSpaces after
  pub text_is : before ++ (number ++ after) ≡ text

-- n is the length of the longest of these at the front of a text, and 0 where none stands there.
pub record IsLongestSpaced (text : List ℕ) (n : ℕ) : Type 0 where
  pub found : 0 < n → IsSpacedNumber (take n text)
  pub longest : (k : ℕ) → k ≤ length text → IsSpacedNumber (take k text) → k ≤ n
