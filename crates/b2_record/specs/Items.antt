-- How a value is spelled in a sector.
use Rattle.std.specs.Prelude.{ℕ, ◌+◌, ◌≤◌, Bool, true, ◌&&◌, nat_le, List, [], ◌∷◌, ◌++◌, length}
use Rattle.b2_dec.specs.Number.{IsNumber}
use Rattle.b2_dec.specs.Packing.{packed}
use Rattle.b2_dec.specs.declared.values.Value.{Value}
use Rattle.b2_dec.specs.declared.values.Value.TheVariants as value
use Rattle.b2_record.specs.declared.items.TheConstants.{NUMBER, ALPHA}

-- a number is its first byte and its eight packed bytes; an alpha value is a byte with its length, and its bytes
abbrev pub value_spelled : Value → List ℕ
value_spelled (value.Number x) = NUMBER ∷ packed x
value_spelled (value.Alpha bytes) = (ALPHA + length bytes) ∷ bytes

-- values one after the other
abbrev pub group_bytes : List Value → List ℕ
group_bytes [] = []
group_bytes (v ∷ values) = value_spelled v ++ group_bytes values

-- a record holds alpha values of 1 to 124 bytes
abbrev pub is_short : Value → Bool
is_short (value.Number x) = true
is_short (value.Alpha bytes) = nat_le 1 (length bytes) && nat_le (length bytes) 124

-- what a record may hold: a number, or a short alpha value
abbrev pub IsStorable : Value → Type 0
IsStorable (value.Number x) = IsNumber x
IsStorable (value.Alpha bytes) = (1 ≤ length bytes) × (length bytes ≤ 124)

abbrev pub AllStorable : List Value → Type 0
AllStorable [] = Unit {0}
AllStorable (v ∷ values) = IsStorable v × AllStorable values
