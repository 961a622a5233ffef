-- One value in one field.
use Rattle.std.specs.Prelude.{ℕ, ◌==◌, nat_le, if◌then◌else◌, List, [], length, Option, Some, None, Result, Ok, Err}
use Rattle.b2_base.specs.Lexical.{skip_blanks}
use Rattle.b2_base.specs.declared.codes.TheConstants.{X71_DOES_NOT_FIT, X73_NOT_A_NUMBER, X74_OTHER_KIND, X76_LOCATOR_OR_FIELD}
use Rattle.b2_dec.specs.Number.{Number}
use Rattle.b2_dec.specs.Packing.{packed}
use Rattle.b2_dec.specs.declared.values.Value.{Value}
use Rattle.b2_dec.specs.declared.values.Value.TheVariants as value
use Rattle.b2_dec.specs.declared.values.Kind.{Kind}
use Rattle.b2_dec.specs.declared.values.Kind.TheVariants as kind
use Rattle.b2_dectext.specs.NumberText.{number_len, number_read}
use Rattle.b2_dectext.specs.Printed.{without_spaces}
use Rattle.b2_pack.specs.declared.specification.Field.{Field}
use Rattle.b2_pack.specs.declared.specification.Field.TheVariants as field
use Rattle.b2_pack.specs.Rows.{row_bytes, row_fits, number_of_row}
use Rattle.b2_alpha.specs.Values.{padded}
use Rattle.b2_dectext.specs.FieldParts.{right_aligned}
use Rattle.b2_pack.specs.Specification.{digits_row}
use Rattle.b2_pack.specs.PackedNumbers.{unpacked}

-- The code where a value isn't packed into a field: X74 for one of another kind, X71 for a number that doesn't fit.
abbrev pub value_code : Field → Value → Option ℕ
value_code (field.Text width) (value.Number x) = if nat_le (length (without_spaces x)) width then None else Some X71_DOES_NOT_FIT
value_code (field.Text width) (value.Alpha a) = Some X74_OTHER_KIND
value_code (field.Digits decimals width) (value.Number x) = if row_fits (digits_row decimals width) x then None else Some X71_DOES_NOT_FIT
value_code (field.Digits decimals width) (value.Alpha a) = Some X74_OTHER_KIND
value_code field.Packed (value.Number x) = None
value_code field.Packed (value.Alpha a) = Some X74_OTHER_KIND
value_code (field.Alpha width) (value.Number x) = Some X74_OTHER_KIND
value_code (field.Alpha width) (value.Alpha a) = None

-- The bytes of a value in a field, where it is of the field's kind.
abbrev pub bytes_in_field : Field → Value → List ℕ
bytes_in_field (field.Text width) (value.Number x) = right_aligned width (without_spaces x)
bytes_in_field (field.Text width) (value.Alpha a) = []
bytes_in_field (field.Digits decimals width) (value.Number x) = row_bytes (digits_row decimals width) x
bytes_in_field (field.Digits decimals width) (value.Alpha a) = []
bytes_in_field field.Packed (value.Number x) = packed x
bytes_in_field field.Packed (value.Alpha a) = []
bytes_in_field (field.Alpha width) (value.Number x) = []
bytes_in_field (field.Alpha width) (value.Alpha a) = padded width a

-- the number, or a code where there is none
abbrev pub number_or : ℕ → Option Number → Result Number ℕ
number_or code None = Err code
number_or code (Some x) = Ok x

-- one number with blanks before it, and nothing else
abbrev pub text_number : List ℕ → Result Number ℕ
text_number bytes =
    let text = skip_blanks bytes in
    if number_len text == length text then number_or X73_NOT_A_NUMBER (number_read text) else Err X73_NOT_A_NUMBER

abbrev pub packed_number : List ℕ → Result Number ℕ
packed_number bytes = number_or X76_LOCATOR_OR_FIELD (unpacked bytes)

abbrev pub as_value : Result Number ℕ → Result Value ℕ
as_value (Ok x) = Ok (value.Number x)
as_value (Err code) = Err code

-- the value of a kind that the bytes of a field hold, or the code where they hold none
abbrev pub field_value : Field → Kind → List ℕ → Result Value ℕ
field_value (field.Text width) kind.Number bytes = as_value (text_number bytes)
field_value (field.Text width) kind.Alpha bytes = Err X74_OTHER_KIND
field_value (field.Digits decimals width) kind.Number bytes = as_value (number_of_row (digits_row decimals width) bytes)
field_value (field.Digits decimals width) kind.Alpha bytes = Err X74_OTHER_KIND
field_value field.Packed kind.Number bytes = as_value (packed_number bytes)
field_value field.Packed kind.Alpha bytes = Err X74_OTHER_KIND
field_value (field.Alpha width) kind.Number bytes = Err X74_OTHER_KIND
field_value (field.Alpha width) kind.Alpha bytes = Ok (value.Alpha bytes)
