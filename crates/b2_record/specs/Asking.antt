-- The first values of a record, as they are asked.
use Rattle.std.specs.Prelude.{ℕ, ◌+◌, Bool, true, false, not, ◌&&◌, nat_lt, List, [], ◌∷◌, length, take, Option, Some, None, option_map, Result, Ok, Err, if◌then◌else◌}
use Rattle.std.specs.Global.{Vec as GlobalVec}
use Rattle.b2_base.specs.declared.codes.TheConstants.{D88_FORMAT, X70_TOO_LITTLE, X74_OTHER_KIND}
use Rattle.b2_dec.specs.declared.values.Value.{Value}
use Rattle.b2_dec.specs.declared.values.Value.TheVariants as value
use Rattle.b2_dec.specs.declared.values.Kind.{Kind}
use Rattle.b2_dec.specs.declared.values.Kind.TheVariants as kind

-- a value is of a kind
abbrev pub is_of : Kind → Value → Bool
is_of kind.Number (value.Number x) = true
is_of kind.Number (value.Alpha bytes) = false
is_of kind.Alpha (value.Number x) = false
is_of kind.Alpha (value.Alpha bytes) = true

-- values are of the kinds that are asked, as far as there are both
abbrev pub agree : List Kind → List Value → Bool
agree [] values = true
agree (k ∷ kinds) [] = true
agree (k ∷ kinds) (v ∷ values) = is_of k v && agree kinds values

-- the values that are loaded and the place after their record, as one value
abbrev pub as_values : Option (GlobalVec Value × ℕ) → Option (List Value × ℕ)
as_values given = option_map (λ found. (found.0.items, found.1)) given

-- what is loaded of the record that was read at a place
abbrev pub first_asked : List Kind → ℕ → Option (List Value × ℕ) → Result (Option (List Value × ℕ)) ℕ
first_asked kinds pos None = Err D88_FORMAT
first_asked kinds pos (Some found) =
    if not (agree kinds found.0) then Err X74_OTHER_KIND
    else (if nat_lt (length found.0) (length kinds) then Err X70_TOO_LITTLE else Ok (Some (take (length kinds) found.0, pos + found.1)))
