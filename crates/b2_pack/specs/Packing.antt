-- Values in a buffer, at the places of their fields.
use Rattle.std.specs.Prelude.{◌≡◌, ℕ, ◌+◌, ◌≤◌, nat_lt, Bool, true, not, if◌then◌else◌, List, [], ◌∷◌, ◌++◌, length, take, drop, Option, Some, None}
use Rattle.std.specs.List.{flat_map}
use Rattle.b2_base.specs.declared.codes.TheConstants.{P58_SPECIFICATION, X70_TOO_LITTLE, X71_DOES_NOT_FIT}
use Rattle.b2_dec.specs.Number.{Number}
use Rattle.b2_dec.specs.declared.values.Value.{Value}
use Rattle.b2_pack.specs.declared.rows.Row.{Row}
use Rattle.b2_pack.specs.declared.specification.Field.{Field}
use Rattle.b2_pack.specs.declared.specification.Pair.{Pair}
use Rattle.b2_pack.specs.declared.specification.Pair.TheVariants as pair
use Rattle.b2_pack.specs.Rows.{row_bytes, row_fits, row_length}
use Rattle.b2_pack.specs.Specification.{specified_pairs, is_specification, field_length, IsField}
use Rattle.b2_pack.specs.FieldValues.{value_code, bytes_in_field}

-- a field and where it begins in the buffer
pub record Placed : Type 0 where
  pub start : ℕ
  pub field : Field

-- The fields of pairs, one after another from a place on; what is skipped lies between them.
abbrev pub placed_from : ℕ → List Pair → List Placed
placed_from at [] = []
placed_from at (pair.Skip width ∷ ps) = placed_from (at + width) ps
placed_from at (pair.Holding f ∷ ps) = record { start = at; field = f } ∷ placed_from (at + field_length f) ps

-- the fields of a specification
abbrev pub placed_fields : List ℕ → List Placed
placed_fields specification = placed_from 0 (specified_pairs specification)

-- whether the first field passes the end of a buffer, or there is none
abbrev pub lacks_room : List Placed → ℕ → Bool
lacks_room [] room = true
lacks_room (p ∷ ps) room = nat_lt room (p.start + field_length p.field)

-- The next field of a specification from a place on begins here, lies in the buffer, and these pairs follow it.
pub record IsNextField (text : List ℕ) (at room : ℕ) (field : Field) (start : ℕ) (rest : List ℕ) : Type 0 where
  pub first : placed_from at (specified_pairs text) ≡ record { start = start; field = field } ∷ placed_from (start + field_length field) (specified_pairs rest)
  pub inside : start + field_length field ≤ room
  pub legal : IsField field

-- a buffer with bytes written over it from a place on
abbrev pub written_at : ℕ → List ℕ → List ℕ → List ℕ
written_at start bytes buffer = take start buffer ++ (bytes ++ drop (start + length bytes) buffer)

-- A buffer with values in fields, one in each, as long as there are both.
abbrev pub with_values : List Placed → List Value → List ℕ → List ℕ
with_values ps [] buffer = buffer
with_values [] (v ∷ vs) buffer = buffer
with_values (p ∷ ps) (v ∷ vs) buffer = with_values ps vs (written_at p.start (bytes_in_field p.field v) buffer)

-- the first code of several
abbrev pub earlier_code : Option ℕ → Option ℕ → Option ℕ
earlier_code None next = next
earlier_code (Some code) next = Some code

-- The first code of values from the left: X70 where a value has no field or its field passes the end of the buffer, and
-- then the value's own.
abbrev pub values_code : List Placed → List Value → ℕ → Option ℕ
values_code ps [] room = None
values_code [] (v ∷ vs) room = Some X70_TOO_LITTLE
values_code (p ∷ ps) (v ∷ vs) room =
    if nat_lt room (p.start + field_length p.field) then Some X70_TOO_LITTLE
    else earlier_code (value_code p.field v) (values_code ps vs room)

-- P58 comes before all other codes.
abbrev pub fields_code : List ℕ → List Value → ℕ → Option ℕ
fields_code specification vs room =
    if is_specification specification then values_code (placed_fields specification) vs room else Some P58_SPECIFICATION

-- the bytes of numbers in rows side by side
abbrev pub numbers_bytes : Row → List Number → List ℕ
numbers_bytes row xs = flat_map (row_bytes row) xs

-- a buffer with bytes at its front
abbrev pub with_front_bytes : List ℕ → List ℕ → List ℕ
with_front_bytes bytes buffer = bytes ++ drop (length bytes) buffer

-- the first code of numbers from the left: X70 where the buffer ends, X71 where a number doesn't fit
abbrev pub numbers_code : Row → ℕ → List Number → ℕ → Option ℕ
numbers_code row at [] room = None
numbers_code row at (x ∷ xs) room =
    if nat_lt room (at + row_length row) then Some X70_TOO_LITTLE
    else (if not (row_fits row x) then Some X71_DOES_NOT_FIT
    else numbers_code row (at + row_length row) xs room)

-- a buffer with numbers at its front, by an image; there is no row where there is no image
abbrev pub with_image : Option Row → List Number → List ℕ → List ℕ
with_image None xs buffer = buffer
with_image (Some row) xs buffer = with_front_bytes (numbers_bytes row xs) buffer

abbrev pub image_code : Option Row → List Number → ℕ → Option ℕ
image_code None xs room = Some P58_SPECIFICATION
image_code (Some row) xs room = numbers_code row 0 xs room
