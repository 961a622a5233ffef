-- The values that the fields of a buffer hold.
use Rattle.std.specs.Prelude.{ℕ, zero, suc, ◌+◌, nat_lt, if◌then◌else◌, List, [], ◌∷◌, length, take, drop, Option, Some, None, Result, Ok, Err}
use Rattle.b2_base.specs.declared.codes.TheConstants.{P58_SPECIFICATION, X70_TOO_LITTLE}
use Rattle.b2_dec.specs.Number.{Number}
use Rattle.b2_dec.specs.declared.values.Value.{Value}
use Rattle.b2_dec.specs.declared.values.Kind.{Kind}
use Rattle.b2_pack.specs.declared.rows.Row.{Row}
use Rattle.b2_pack.specs.Rows.{number_of_row, row_length}
use Rattle.b2_pack.specs.Specification.{is_specification, field_length}
use Rattle.b2_pack.specs.FieldValues.{field_value}
use Rattle.b2_pack.specs.Packing.{Placed, placed_fields}

-- an item before others; the first code from the left is that of all
abbrev pub before_items : {A : Type 0} → Result A ℕ → Result (List A) ℕ → Result (List A) ℕ
before_items (Ok x) (Ok xs) = Ok (x ∷ xs)
before_items (Ok x) (Err code) = Err code
before_items (Err code) rest = Err code

-- The values of given kinds in the fields of a buffer. X70 where there is no field or it passes the end of the buffer,
-- and then the value's own code.
abbrev pub values_in : List Placed → List Kind → List ℕ → Result (List Value) ℕ
values_in ps [] bytes = Ok []
values_in [] (k ∷ ks) bytes = Err X70_TOO_LITTLE
values_in (p ∷ ps) (k ∷ ks) bytes =
    if nat_lt (length bytes) (p.start + field_length p.field) then Err X70_TOO_LITTLE
    else before_items (field_value p.field k (take (field_length p.field) (drop p.start bytes))) (values_in ps ks bytes)

-- P58 comes before all other codes.
abbrev pub fields_in : List ℕ → List Kind → List ℕ → Result (List Value) ℕ
fields_in specification ks bytes =
    if is_specification specification then values_in (placed_fields specification) ks bytes else Err P58_SPECIFICATION

-- n numbers in rows, one after another from a place on
abbrev pub numbers_in : Row → ℕ → ℕ → List ℕ → Result (List Number) ℕ
numbers_in row at zero bytes = Ok []
numbers_in row at (suc n) bytes =
    if nat_lt (length bytes) (at + row_length row) then Err X70_TOO_LITTLE
    else before_items (number_of_row row (take (row_length row) (drop at bytes))) (numbers_in row (at + row_length row) n bytes)

abbrev pub numbers_by_rows : Option Row → ℕ → List ℕ → Result (List Number) ℕ
numbers_by_rows None n bytes = Err P58_SPECIFICATION
numbers_by_rows (Some row) n bytes = numbers_in row 0 n bytes
