-- The functions of the language on values, and the numbers that they and subscripts want.
use Rattle.std.specs.Prelude.{ℕ, ◌+◌, ◌^◌, ◌==◌, ◌&&◌, nat_le, nat_lt, int_le, min, ℤ, pos, Bool, false, List, ◌++◌, length, take, Option, Some, None, Result, Ok, Err, if◌then◌else◌}
use Rattle.b2_base.specs.declared.codes.TheConstants.{P34_RANGE, X72_TOO_LONG}
use Rattle.b2_dec.specs.Number.{Number, value}
use Rattle.b2_dec.specs.Rounding.{rnd}
use Rattle.b2_dec.specs.Arithmetic.{int_of, fix_of, whole_of, sign_of, modulo_of, multiple_of, root_of}
use Rattle.b2_dec.specs.declared.number.Mode.{Mode}
use Rattle.b2_dec.specs.declared.number.Mode.TheVariants.{Cut}
use Rattle.b2_dectext.specs.NumberText.{spaced_number_len}
use Rattle.b2_alpha.specs.Places.{number_in_base, digits_in_base}
use Rattle.b2_alpha.specs.Relations.{found_place}
use Rattle.b2_alpha.specs.declared.relation.Rel.{Rel}
use Rattle.b2_atom.specs.declared.words.TheConstants as word
use Rattle.b2_base.specs.Lexical.{first}
use Rattle.b2_expr.specs.Answers.{Answer, TextAnswer, ◌>>=◌}

-- a whole number as a number
abbrev pub whole_number : ℕ → Answer
whole_number n = rnd Cut false n 1

-- the whole number that a number without its fraction is, where it is one of 64 bits
abbrev pub whole_in : Answer → Option ℤ
whole_in (Ok x) = whole_of x
whole_in (Err code) = None

abbrev pub fixed : Number → Option ℤ
fixed x = whole_in (fix_of x)

-- a number without its fraction, from one whole number to another, and P34 where it isn't
abbrev pub within : ℕ → ℕ → Option ℤ → Result ℕ ℕ
within least most (Some (pos n)) = if nat_le least n && nat_le n most then Ok n else Err P34_RANGE
within least most z = Err P34_RANGE

abbrev pub whole_between : ℕ → ℕ → Number → Result ℕ ℕ
whole_between least most x = within least most (fixed x)

-- a subscript without its fraction. No array has the subscript 65,535, for which all stand that no array has.
abbrev pub subscript_in : Option ℤ → ℕ
subscript_in (Some (pos n)) = min n 65535
subscript_in z = 65535

abbrev pub subscript : Number → ℕ
subscript x = subscript_in (fixed x)

-- the column that is written, or 0
abbrev pub column_written : Option Number → ℕ
column_written None = 0
column_written (Some x) = subscript x

-- a function of one number, by its word
abbrev pub of_one : ℕ → Number → Answer
of_one c x =
    if c == word.ABS_OPEN then Ok (record x { neg = false })
    else (if c == word.INT_OPEN then int_of x
    else (if c == word.FIX_OPEN then fix_of x
    else (if c == word.SGN_OPEN then Ok (sign_of x)
    else root_of x)))

-- a number rounded to a multiple of 10^-n
abbrev pub rounded_to : Number → Option ℤ → Answer
rounded_to x None = Err P34_RANGE
rounded_to x (Some n) = multiple_of x n

-- a function of two numbers: ROUND or MOD
abbrev pub of_two : Mode → ℕ → Number → Number → Answer
of_two mode c x y = if c == word.ROUND_OPEN then rounded_to x (fixed y) else modulo_of mode x y

abbrev pub is_below : Number → Number → Bool
is_below x y = int_le (value x) (value y)

-- the greater of two numbers, or the lesser: MAX or MIN
abbrev pub extreme : ℕ → Number → Number → Number
extreme c x y = if c == word.MAX_OPEN then (if is_below x y then y else x) else (if is_below x y then x else y)

-- a function of an alpha value: LEN or NUM
abbrev pub of_text : ℕ → List ℕ → Answer
of_text c bytes = whole_number (if c == word.LEN_OPEN then length bytes else spaced_number_len bytes)

-- the place of the first byte of a that stands in the relation to the first byte of b
abbrev pub position_of : Rel → List ℕ → List ℕ → Answer
position_of rel a b = whole_number (found_place a rel (first b))

-- a count, where one is written, and else what stands for it
abbrev pub count_or : ℕ → ℕ → ℕ → Option Number → Result ℕ ℕ
count_or otherwise least most None = Ok otherwise
count_or otherwise least most (Some x) = whole_between least most x

-- the number of the first n bytes
abbrev pub number_of : List ℕ → ℕ → Answer
number_of bytes n = if nat_le n (length bytes) then whole_number (number_in_base 256 (take n bytes)) else Err P34_RANGE

-- a number without its fraction in n bytes
abbrev pub binary_bytes : ℕ → Option ℤ → TextAnswer
binary_bytes n (Some (pos k)) = if nat_lt k (256 ^ n) then Ok (digits_in_base 256 n k) else Err P34_RANGE
binary_bytes n z = Err P34_RANGE

-- bytes joined to others, X72 where they are more than 255
abbrev pub joined_text : List ℕ → List ℕ → TextAnswer
joined_text a b = if nat_le (length a + length b) 255 then Ok (a ++ b) else Err X72_TOO_LONG

-- a number without its fraction, in n bytes after others
abbrev pub joined_number : ℕ → Number → List ℕ → TextAnswer
joined_number n x old = binary_bytes n (fixed x) >>= joined_text old
