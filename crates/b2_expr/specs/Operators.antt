-- The operators of expressions: what joins numbers, by levels, and what compares.
use Rattle.std.specs.Prelude.{ℕ, ◌==◌, nat_le, Bool, true, false, Option, Some, None, Ok, Err, ℤ, pos, negsuc, if◌then◌else◌}
use Rattle.b2_base.specs.Byte as byte
use Rattle.b2_base.specs.declared.codes.TheConstants.{C65_EXPONENT}
use Rattle.b2_dec.specs.Number.{Number, zero_number}
use Rattle.b2_dec.specs.Arithmetic.{sum_of, difference_of, product_of, quotient_of, power_of, whole_of}
use Rattle.b2_dec.specs.declared.number.Mode.{Mode}
use Rattle.b2_atom.specs.declared.words.TheConstants as word
use Rattle.b2_expr.specs.Answers.{Answer}

-- a number to the power of a whole one of at most 255
abbrev pub raised_by : Mode → Number → Option ℤ → Answer
raised_by mode a None = Err C65_EXPONENT
raised_by mode a (Some (pos n)) = if nat_le n 255 then power_of mode a n else Err C65_EXPONENT
raised_by mode a (Some (negsuc n)) = Err C65_EXPONENT

abbrev pub raised : Mode → Number → Number → Answer
raised mode a b = raised_by mode a (whole_of b)

-- what two numbers come to by the operator that a byte is
abbrev pub joined : Mode → ℕ → Number → Number → Answer
joined mode c a b =
    if c == byte.plus then sum_of mode a b
    else (if c == byte.minus then difference_of mode a b
    else (if c == byte.asterisk then product_of mode a b
    else (if c == byte.slash then quotient_of mode a b
    else raised mode a b)))

-- a number with `+` or `-` before it
abbrev pub under_sign : Mode → ℕ → Number → Answer
under_sign mode c x = if c == byte.minus then difference_of mode zero_number x else Ok x

-- what AND, OR or XOR make of two conditions
abbrev pub joined_condition : ℕ → Bool → Bool → Bool
joined_condition c true b = if c == word.AND then b else (if c == word.OR then true else (if b then false else true))
joined_condition c false b = if c == word.AND then false else b
