-- The one spelling of a list of values.
use Rattle.std.specs.Prelude.{ℕ, suc, ◌+◌, List, [], ◌∷◌, ◌++◌, length, if◌then◌else◌}
use Rattle.b2_dec.specs.declared.values.Value.{Value}
use Rattle.b2_record.specs.Items.{value_spelled, group_bytes}
use Rattle.b2_record.specs.Records.{has_room, sectors_from}

-- the values of a sector that has some already, and of those after it
abbrev pub groups_from : List Value → List Value → List (List Value)
groups_from group [] = group ∷ []
groups_from group (v ∷ values) =
    if has_room (length (group_bytes group)) v then groups_from (group ++ v ∷ []) values else group ∷ groups_from (v ∷ []) values

-- the values of a record, sector by sector
abbrev pub groups_of : List Value → List (List Value)
groups_of values = groups_from [] values

-- the sectors of a record
abbrev pub record_of : List Value → List (List ℕ)
record_of values = sectors_from 1 (groups_of values)

-- the further sectors of a record, numbered from some number on, for the values that are left; none where none are left
abbrev pub sectors_left : ℕ → List Value → List (List ℕ)
sectors_left number [] = []
sectors_left number (v ∷ values) = sectors_from number (groups_of (v ∷ values))

-- how many of the values have room in a sector of which some bytes are used
abbrev pub first_count : ℕ → List Value → ℕ
first_count used [] = 0
first_count used (v ∷ values) = if has_room used v then suc (first_count (used + length (value_spelled v)) values) else 0
