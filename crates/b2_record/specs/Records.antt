-- The grammar of a record: which sectors spell which values.
use Rattle.std.specs.Prelude.{◌≡◌, ℕ, ◌+◌, ◌-◌, ◌≤◌, Bool, true, false, not, ◌&&◌, ◌==◌, nat_le, List, [], ◌∷◌, ◌++◌, length, replicate}
use Rattle.b2_dec.specs.declared.values.Value.{Value}
use Rattle.b2_platter.specs.Image.{sectors_at}
use Rattle.b2_record.specs.declared.items.TheConstants.{END_OF_VALUES}
use Rattle.b2_record.specs.declared.sectors.TheConstants.{ROOM, ONLY, FIRST, MIDDLE, LAST}
use Rattle.b2_record.specs.Items.{value_spelled, group_bytes, AllStorable}

-- the kind of a sector, by whether it is the first of its record, and whether it is the last
abbrev pub sector_kind : Bool → Bool → ℕ
sector_kind true true = ONLY
sector_kind true false = FIRST
sector_kind false false = MIDDLE
sector_kind false true = LAST

-- a sector: its kind, its number within the record, its values, what ends them, and 00 to the end
abbrev pub sector_of : ℕ → ℕ → List Value → List ℕ
sector_of kind number group = kind ∷ number ∷ (group_bytes group ++ END_OF_VALUES ∷ replicate (ROOM - length (group_bytes group)) 0)

-- what follows the number of a sector: values that can be stored, what ends them, and nothing but 00
pub record IsGroup (group : List Value) (bytes : List ℕ) : Type 0 where
  pub storable : AllStorable group
  pub zeros : ℕ
  pub same : bytes ≡ group_bytes group ++ END_OF_VALUES ∷ replicate zeros 0

-- a value fits after so many bytes of values
abbrev pub has_room : ℕ → Value → Bool
has_room used v = nat_le (used + length (value_spelled v)) ROOM

-- the values of a sector fit
abbrev pub fits_in_sector : List Value → Bool
fits_in_sector group = nat_le (length (group_bytes group)) ROOM

-- the values of a further sector begin with one that had no room in the sector before
abbrev pub goes_over : ℕ → List Value → Bool
goes_over used [] = false
goes_over used (v ∷ group) = not (has_room used v)

-- the values of further sectors, where those of the sector before take some bytes
abbrev pub go_on : ℕ → List (List Value) → Bool
go_on used [] = true
go_on used (group ∷ groups) = goes_over used group && fits_in_sector group && go_on (length (group_bytes group)) groups

-- the values of a record, sector by sector: a value goes into the current sector where it fits, and else into the next
abbrev pub is_record : List (List Value) → Bool
is_record [] = false
is_record (group ∷ groups) = fits_in_sector group && go_on (length (group_bytes group)) groups

abbrev pub is_none : List (List Value) → Bool
is_none [] = true
is_none (group ∷ groups) = false

-- all values, one sector's after another's
abbrev pub all_values : List (List Value) → List Value
all_values [] = []
all_values (group ∷ groups) = group ++ all_values groups

-- the sectors of these values, numbered from some number on
abbrev pub sectors_from : ℕ → List (List Value) → List (List ℕ)
sectors_from number [] = []
sectors_from number (group ∷ groups) = sector_of (sector_kind (number == 1) (is_none groups)) number group ∷ sectors_from (number + 1) groups

-- a record of values is spelled by sectors, at most 255 of them
pub record Spells (values : List Value) (sectors : List (List ℕ)) : Type 0 where
  pub groups : List (List Value)
  pub storable : AllStorable values
  pub all : all_values groups ≡ values
  pub split : is_record groups ≡ true
  pub few : length groups ≤ 255
  pub same : sectors_from 1 groups ≡ sectors

-- no record is spelled from a sector on, up to a last one
abbrev pub IsNoRecord : List ℕ → ℕ → ℕ → Type 0
IsNoRecord image at last = (values : List Value) (n : ℕ) → at + n ≤ last + 1 → ¬ Spells values (sectors_at image at n)
