-- What is found in a program text: the DEFFN' of a number, the DEFFN of a name, and DATA from a spot on.
use Rattle.std.specs.Prelude.{ℕ, ◌&&◌, ◌==◌, nat_lt, Bool, false, List, [], ◌∷◌, drop, find, slice_get, option_map, Option, Some, None, if◌then◌else◌}
use Rattle.std.specs.Option.{option_map_or}
use Rattle.std.specs.List.{position_from}
use Rattle.b2_base.specs.Byte as byte
use Rattle.b2_base.specs.Lexical.{capped_value}
use Rattle.b2_atom.specs.Lines.{units_of}
use Rattle.b2_atom.specs.declared.words.TheConstants.{DEFFN, DEFFN_PRIME, DATA}
use Rattle.b2_text.specs.Program.{Lines, line_at}
use Rattle.b2_text.specs.declared.spots.Spot.{Spot}

-- the bytes of a unit of a line, none where there is no such unit
abbrev pub unit_of : ℕ → List ℕ → List ℕ
unit_of k atoms = option_map_or (λ u. u.bytes) (slice_get (units_of atoms) k) []

-- the bytes of the unit at a spot, none where there is no such line or no such unit
abbrev pub unit_at : Spot → Lines → List ℕ
unit_at spot lines = option_map_or (unit_of spot.unit) (line_at spot.line lines) []

-- DEFFN' and a small number of that value
abbrev pub is_mark : ℕ → List ℕ → Bool
is_mark n [] = false
is_mark n (b ∷ bs) = b == DEFFN_PRIME && capped_value 999 0 bs == n

-- DEFFN, the name and `(`
abbrev pub is_function : ℕ → List ℕ → Bool
is_function name (b ∷ c ∷ d ∷ bs) = b == DEFFN && (c == name && d == byte.opening)
is_function name bs = false

abbrev pub is_data : List ℕ → Bool
is_data [] = false
is_data (b ∷ bs) = b == DATA

-- the first unit of the lowest line that passes
abbrev pub first_line : {A : Type 0} → (A → Bool) → List (ℕ × A) → Option Spot
first_line test lines = option_map (λ l. record { line = l.0; unit = 0 }) (find (λ l. test l.1) lines)

-- the lowest line whose first unit passes
abbrev pub first_opening : (List ℕ → Bool) → Lines → Option Spot
first_opening test lines = first_line (λ atoms. test (unit_of 0 atoms)) lines

-- the first DATA of a line from a unit on
abbrev pub data_in : ℕ → List ℕ → Option ℕ
data_in from atoms = position_from (λ u. is_data u.bytes) from (drop from (units_of atoms))

-- what is found in a line at or after a spot
abbrev pub found_in : {A : Type 0} → (ℕ → A → Option ℕ) → Spot → ℕ × A → Option Spot
found_in search from line =
    if nat_lt line.0 from.line then None
    else option_map (λ u. record { line = line.0; unit = u }) (search (if line.0 == from.line then from.unit else 0) line.1)

-- the first DATA of a line at or after a spot
abbrev pub data_of : Spot → ℕ × List ℕ → Option Spot
data_of from line = found_in data_in from line

abbrev pub or_else : {A : Type 0} → Option A → Option A → Option A
or_else (Some x) y = Some x
or_else None y = y

-- what is found at or after a spot, in the lowest line that has it
abbrev pub found_from : {A : Type 0} → (ℕ → A → Option ℕ) → Spot → List (ℕ × A) → Option Spot
found_from search from [] = None
found_from search from (line ∷ lines) = or_else (found_in search from line) (found_from search from lines)

-- the first DATA at or after a spot, in the lowest line that has one
abbrev pub data_from : Spot → Lines → Option Spot
data_from from lines = found_from data_in from lines
