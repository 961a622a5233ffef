-- What typed leaves say, by the bytes of their tokens.
use Rattle.std.specs.Prelude.{ℕ, ◌+◌, ◌-◌, ◌*◌, ◌==◌, Bool, length, take, drop, get_or, Option, Some, None, if◌then◌else◌}
use Rattle.b2_base.specs.Byte as byte
use Rattle.b2_base.specs.Lexical.{capped_value, decimal_of, first, hex_value, is_digit}
use Rattle.b2_alpha.specs.declared.relation.Rel.{Rel}
use Rattle.b2_alpha.specs.declared.relation.Rel.TheVariants as rel
use Rattle.b2_atom.specs.Words.{Text}
use Rattle.b2_rows.specs.declared.leaves.Name.{Name}

-- the number of a line by its two bytes of decimal digits
abbrev pub line_of : ℕ → ℕ → ℕ
line_of high low = decimal_of high * 100 + decimal_of low

-- a name without its `@`: a letter, and a digit or none
abbrev pub digit_in : Text → Option ℕ
digit_in w = if is_digit (first w) then Some (first w) else None

abbrev pub lettered : Bool → Bool → Text → Name
lettered alpha global w = record { letter = first w; digit = digit_in (drop 1 w); alpha = alpha; global = global }

-- a name, alpha or not, with `@` before it or not
abbrev pub variable_name : Bool → Text → Name
variable_name alpha w = lettered alpha (first w == byte.at_sign) (if first w == byte.at_sign then drop 1 w else w)

-- a small number, and the number of a slot after its `#`
abbrev pub small_of : Text → ℕ
small_of w = capped_value 999 0 w

abbrev pub slot_number : Text → ℕ
slot_number w = capped_value 999 0 (drop 1 w)

-- the bytes between the quotes of a literal, and those before the parenthesis of an image
abbrev pub literal_of : Text → Text
literal_of w = take (length w - 2) (drop 1 w)

abbrev pub image_of : Text → Text
image_of w = take (length w - 1) w

-- the byte of two hexadecimal digits
abbrev pub hex_byte_of : Text → ℕ
hex_byte_of w = hex_value (get_or w 0 0) * 16 + hex_value (get_or w 1 0)

-- one of = < > <> <= >=
abbrev pub less_with : ℕ → Rel
less_with b = if b == byte.equals then rel.Le else (if b == byte.greater then rel.Ne else rel.Lt)

abbrev pub greater_with : ℕ → Rel
greater_with b = if b == byte.equals then rel.Ge else rel.Gt

abbrev pub relation_of : Text → Rel
relation_of w =
    if first w == byte.less then less_with (get_or w 1 0) else (if first w == byte.greater then greater_with (get_or w 1 0) else rel.Eq)
