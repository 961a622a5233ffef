-- A specification of $PACK: pairs of a kind and a width.
use Rattle.std.specs.Prelude.{ℕ, ◌+◌, ◌-◌, ◌*◌, ◌≤◌, ◌==◌, ◌&&◌, nat_le, Bool, true, if◌then◌else◌, List, [], ◌∷◌, Option, Some, None, is_some}
use Rattle.b2_base.specs.Byte as byte
use Rattle.b2_pack.specs.declared.rows.SignNibble.TheVariants.{After}
use Rattle.b2_pack.specs.declared.rows.Row.{Row}
use Rattle.b2_pack.specs.declared.specification.TheConstants.{SKIP, TEXT, DIGITS, PACKED, ALPHA}
use Rattle.b2_pack.specs.declared.specification.Field.{Field}
use Rattle.b2_pack.specs.declared.specification.Field.TheVariants as field
use Rattle.b2_pack.specs.declared.specification.Pair.{Pair}
use Rattle.b2_pack.specs.declared.specification.Pair.TheVariants as pair

-- what a pair means: a kind from 00 to A0 with a width of at least 1, where a packed number has 8 bytes
abbrev pub pair_meant : ℕ → ℕ → Option Pair
pair_meant kind width =
    if width == 0 then None
    else (if kind == SKIP then Some (pair.Skip width)
    else (if kind == TEXT then Some (pair.Holding (field.Text width))
    else (if nat_le DIGITS kind && nat_le kind (DIGITS + 9) then Some (pair.Holding (field.Digits (kind - DIGITS) width))
    else (if (kind == PACKED) && (width == 8) then Some (pair.Holding field.Packed)
    else (if kind == ALPHA then Some (pair.Holding (field.Alpha width))
    else None)))))

-- two blanks end a specification
abbrev pub ends_pairs : ℕ → ℕ → Bool
ends_pairs kind width = (kind == byte.blank) && (width == byte.blank)

-- a pair before others
abbrev pub before_pairs : Option Pair → List Pair → List Pair
before_pairs None ps = []
before_pairs (Some p) ps = p ∷ ps

-- the pairs of a specification, up to its end
abbrev pub specified_pairs : List ℕ → List Pair
specified_pairs [] = []
specified_pairs (b ∷ []) = []
specified_pairs (kind ∷ width ∷ rest) = if ends_pairs kind width then [] else before_pairs (pair_meant kind width) (specified_pairs rest)

-- Whether bytes are pairs up to an end: two blanks, the last byte, or a single blank after the last pair.
abbrev pub is_specification : List ℕ → Bool
is_specification [] = true
is_specification (b ∷ []) = b == byte.blank
is_specification (kind ∷ width ∷ rest) =
    if ends_pairs kind width then true else (is_some (pair_meant kind width) && is_specification rest)

-- A packed decimal has two digits in each of its bytes, but for the nibble of its sign.
abbrev pub digits_row : ℕ → ℕ → Row
digits_row decimals width = record { sign = After; digits = 2 * width - 1; decimals = decimals }

-- how many bytes a field has
abbrev pub field_length : Field → ℕ
field_length (field.Text width) = width
field_length (field.Digits decimals width) = width
field_length field.Packed = 8
field_length (field.Alpha width) = width

abbrev pub field_decimals : Field → ℕ
field_decimals (field.Text width) = 0
field_decimals (field.Digits decimals width) = decimals
field_decimals field.Packed = 0
field_decimals (field.Alpha width) = 0

-- a field as a pair writes it
pub record IsField (f : Field) : Type 0 where
  pub least : 1 ≤ field_length f
  pub most : field_length f ≤ 255
  pub few : field_decimals f ≤ 9

abbrev pub IsPair : Pair → Type 0
IsPair (pair.Skip width) = Unit {0}
IsPair (pair.Holding f) = IsField f

-- the two bytes that write a pair
abbrev pub pair_written : Pair → List ℕ
pair_written (pair.Skip width) = SKIP ∷ width ∷ []
pair_written (pair.Holding (field.Text width)) = TEXT ∷ width ∷ []
pair_written (pair.Holding (field.Digits decimals width)) = (DIGITS + decimals) ∷ width ∷ []
pair_written (pair.Holding field.Packed) = PACKED ∷ 8 ∷ []
pair_written (pair.Holding (field.Alpha width)) = ALPHA ∷ width ∷ []

abbrev pub pair_width : Pair → ℕ
pair_width (pair.Skip width) = width
pair_width (pair.Holding f) = field_length f

abbrev pub pair_decimals : Pair → ℕ
pair_decimals (pair.Skip width) = 0
pair_decimals (pair.Holding f) = field_decimals f

-- what may follow the last pair: nothing, a single blank, or two blanks and any bytes
abbrev pub is_ending : List ℕ → Bool
is_ending [] = true
is_ending (b ∷ []) = b == byte.blank
is_ending (kind ∷ width ∷ rest) = ends_pairs kind width
