-- What holds of packing: each value stands in its field and nothing else changes, and what its field spells comes back.
use Rattle.std.specs.Prelude.{◌≡◌, ◌≤◌, ℕ, ◌+◌, ◌*◌, ◌^◌, ◌%◌, ◌&&◌, ◌||◌, nat_le, nat_lt, Bool, true, false, List, [], ◌∷◌, ◌++◌, length, take, drop, get_or, map, Ok, Option, Some, None, is_some, if◌then◌else◌}
use Rattle.std.specs.List.{flat_map}
use Rattle.b2_dec.specs.Number.{Number, IsNumber, size}
use Rattle.b2_dec.specs.declared.values.Value.{Value}
use Rattle.b2_dec.specs.declared.values.Value.TheVariants as value
use Rattle.b2_dec.specs.declared.values.Kind.{Kind}
use Rattle.b2_dec.specs.declared.values.Kind.TheVariants as kind
use Rattle.b2_dectext.specs.Printed.{as_shown}
use Rattle.b2_pack.specs.declared.rows.SignNibble.{SignNibble}
use Rattle.b2_pack.specs.declared.rows.SignNibble.TheVariants.{Absent, Before, After}
use Rattle.b2_pack.specs.declared.rows.Row.{Row}
use Rattle.b2_pack.specs.declared.specification.Field.{Field}
use Rattle.b2_pack.specs.declared.specification.Field.TheVariants as field
use Rattle.b2_pack.specs.Rows.{row_fits, row_bytes, number_of_row}
use Rattle.b2_pack.specs.declared.specification.Pair.{Pair}
use Rattle.b2_pack.specs.Images.{sign_mark, marks, decimal_marks, image_row}
use Rattle.b2_pack.specs.Specification.{digits_row, field_length, pair_written, pair_width, pair_decimals, is_ending, is_specification, specified_pairs}
use Rattle.b2_pack.specs.FieldValues.{value_code, bytes_in_field, field_value}
use Rattle.b2_alpha.specs.Values.{padded}
use Rattle.b2_pack.specs.Packing.{Placed, values_code, numbers_bytes}
use Rattle.b2_pack.specs.Unpacking.{values_in, numbers_in}

-- each value stands in its field
abbrev pub Holds : List Placed → List Value → List ℕ → Type 0
Holds ps [] buffer = Unit {0}
Holds [] (v ∷ vs) buffer = ⊥
Holds (p ∷ ps) (v ∷ vs) buffer = (take (field_length p.field) (drop p.start buffer) ≡ bytes_in_field p.field v) × Holds ps vs buffer

-- whether the field of a value covers a place
abbrev pub is_covered : List Placed → List Value → ℕ → Bool
is_covered ps [] k = false
is_covered [] (v ∷ vs) k = false
is_covered (p ∷ ps) (v ∷ vs) k = (nat_le p.start k && nat_lt k (p.start + field_length p.field)) || is_covered ps vs k

-- A buffer after packing: each value stands in its field, and every other byte is as it was.
pub record Packs (ps : List Placed) (vs : List Value) (old new : List ℕ) : Type 0 where
  pub each : Holds ps vs new
  pub others : (k : ℕ) → is_covered ps vs k ≡ false → get_or new k 0 ≡ get_or old k 0
  pub long : length new ≡ length old

-- There is one way to pack values into a buffer.
abbrev pub ThereIsOneWayToPack : Type 0
ThereIsOneWayToPack = (ps : List Placed) (vs : List Value) (old one other : List ℕ) → Packs ps vs old one → Packs ps vs old other → one ≡ other

-- A row spells a number that has no further decimals, and whose sign it has a nibble for.
abbrev pub has_its_sign : SignNibble → Bool → Type 0
has_its_sign Absent neg = neg ≡ false
has_its_sign Before neg = Unit {0}
has_its_sign After neg = Unit {0}

pub record IsSpelled (row : Row) (x : Number) : Type 0 where
  pub number : IsNumber x
  pub decimals : size x * 10 ^ row.decimals % 10 ^ 111 ≡ 0
  pub sign : has_its_sign row.sign x.neg

-- Such a number comes back out of its row.
abbrev pub RowsKeepNumbers : Type 0
RowsKeepNumbers = (row : Row) (x : Number) → row_fits row x ≡ true → IsSpelled row x → number_of_row row (row_bytes row x) ≡ Ok x

-- numbers that a row spells and has room for
abbrev pub AreSpelled : Row → List Number → Type 0
AreSpelled row [] = Unit {0}
AreSpelled row (x ∷ xs) = ((row_fits row x ≡ true) × IsSpelled row x) × AreSpelled row xs

-- Numbers side by side come back, whatever follows them.
abbrev pub RowsSideBySideKeepNumbers : Type 0
RowsSideBySideKeepNumbers =
    (row : Row) (xs : List Number) (rest : List ℕ) → AreSpelled row xs → numbers_in row 0 (length xs) (numbers_bytes row xs ++ rest) ≡ Ok xs

-- A field keeps a value: any number as number text, a number whose decimals a row keeps all, any packed number, and any
-- bytes.
abbrev pub FieldKeeps : Field → Value → Type 0
FieldKeeps (field.Text width) (value.Number x) = IsNumber x
FieldKeeps (field.Digits decimals width) (value.Number x) = IsSpelled (digits_row decimals width) x
FieldKeeps field.Packed (value.Number x) = IsNumber x
FieldKeeps (field.Alpha width) (value.Number x) = Unit {0}
FieldKeeps f (value.Alpha a) = Unit {0}

-- what comes back of a value: a number as its text shows it, or as it is, bytes padded or cut to the width
abbrev pub kept : Field → Value → Value
kept (field.Text width) (value.Number x) = value.Number (as_shown x)
kept (field.Digits decimals width) (value.Number x) = value.Number x
kept field.Packed (value.Number x) = value.Number x
kept (field.Alpha width) (value.Number x) = value.Number x
kept f (value.Alpha a) = value.Alpha (padded (field_length f) a)

abbrev pub value_kind : Value → Kind
value_kind (value.Number x) = kind.Number
value_kind (value.Alpha a) = kind.Alpha

-- Such a value comes back out of its field.
abbrev pub FieldsKeepValues : Type 0
FieldsKeepValues = (f : Field) (v : Value) → value_code f v ≡ None → FieldKeeps f v → field_value f (value_kind v) (bytes_in_field f v) ≡ Ok (kept f v)

abbrev pub EachFieldKeeps : List Placed → List Value → Type 0
EachFieldKeeps ps [] = Unit {0}
EachFieldKeeps [] (v ∷ vs) = Unit {0}
EachFieldKeeps (p ∷ ps) (v ∷ vs) = FieldKeeps p.field v × EachFieldKeeps ps vs

abbrev pub all_kept : List Placed → List Value → List Value
all_kept ps [] = []
all_kept [] (v ∷ vs) = []
all_kept (p ∷ ps) (v ∷ vs) = kept p.field v ∷ all_kept ps vs

-- What is packed is unpacked again.
abbrev pub UnpackingGivesWhatWasPacked : Type 0
UnpackingGivesWhatWasPacked =
    (ps : List Placed) (vs : List Value) (old new : List ℕ) → values_code ps vs (length old) ≡ None → Packs ps vs old new → EachFieldKeeps ps vs
    → values_in ps (map value_kind vs) new ≡ Ok (all_kept ps vs)

-- pairs of at least one byte and at most nine decimals
abbrev pub ArePairs : List Pair → Type 0
ArePairs [] = Unit {0}
ArePairs (p ∷ ps) = ((1 ≤ pair_width p) × (pair_decimals p ≤ 9)) × ArePairs ps

-- the bytes that write pairs
abbrev pub pairs_bytes : List Pair → List ℕ
pairs_bytes ps = flat_map pair_written ps

-- Pairs and an ending, and nothing else.
pub record IsWritten (text : List ℕ) (ps : List Pair) : Type 0 where
  pub ending : List ℕ
  pub pairs : ArePairs ps
  pub ends : is_ending ending ≡ true
  pub text_is : pairs_bytes ps ++ ending ≡ text

-- Bytes that write pairs are a specification of these pairs, and other bytes are none.
abbrev pub WrittenPairsAreRead : Type 0
WrittenPairsAreRead = (text : List ℕ) (ps : List Pair) → IsWritten text ps → (is_specification text ≡ true) × (specified_pairs text ≡ ps)

abbrev pub OnlyWrittenPairsAreRead : Type 0
OnlyWrittenPairsAreRead = (text : List ℕ) → is_specification text ≡ true → IsWritten text (specified_pairs text)

-- A text writes an image: perhaps a sign, one `#` or more, and perhaps a point and one `#` or more; thirteen at most.
pub record IsImage (text : List ℕ) (row : Row) : Type 0 where
  pub sign : Option Bool
  pub whole : ℕ
  pub decimals : ℕ
  pub least : 1 ≤ whole
  pub most : whole + decimals ≤ 13
  pub text_is : sign_mark sign ++ (marks whole ++ decimal_marks decimals) ≡ text
  pub row_is : row ≡ record { sign = if is_some sign then Before else Absent; digits = whole + decimals; decimals = decimals }

-- Such a text is read as its row, and no other text is.
abbrev pub ImagesAreRead : Type 0
ImagesAreRead = (text : List ℕ) (row : Row) → IsImage text row → image_row text ≡ Some row

abbrev pub OnlyImagesAreRead : Type 0
OnlyImagesAreRead = (text : List ℕ) (row : Row) → image_row text ≡ Some row → IsImage text row
