-- Sectors that are written and read by their number. All are read; those after the catalogue are written.
use Rattle.std.specs.Prelude.{ℕ, ◌+◌, ◌-◌, Bool, ◌&&◌, nat_le, nat_lt, List, [], ◌∷◌, ◌++◌, length, replicate, Option, Some, None, Result, Ok, Err, if◌then◌else◌}
use Rattle.std.specs.Str.{bytes_eq}
use Rattle.b2_base.specs.declared.codes.TheConstants.{D81_FILE_FULL, I98_SECTOR}
use Rattle.b2_dec.specs.declared.values.Kind.{Kind}
use Rattle.b2_dec.specs.declared.values.Value.{Value}
use Rattle.b2_platter.specs.Image.{sector}
use Rattle.b2_platter.specs.Own.{end_of, sectors_of}
use Rattle.b2_platter.specs.Edits.{put_from}
use Rattle.b2_record.specs.Asking.{first_asked}
use Rattle.b2_record.specs.EndSector.{end_mark}
use Rattle.b2_record.specs.Reading.{record_at}
use Rattle.b2_record.specs.Writing.{record_of}

-- so many sectors from one on lie after the catalogue, and are sectors of the platter
abbrev pub are_spare : List ℕ → ℕ → ℕ → Bool
are_spare image at n = nat_le (end_of image) at && nat_le (at + n) (sectors_of image)

-- THE PLATTER with these sectors in place from one on, where all of them lie so
abbrev pub raw : List ℕ → ℕ → List (List ℕ) → Option (List ℕ)
raw image at sectors = if are_spare image at (length sectors) then Some (put_from image at sectors) else None

-- the platter that is written, and a number; or the code
abbrev pub written : ℕ → Option (List ℕ) → Result (List ℕ × ℕ) ℕ
written next None = Err I98_SECTOR
written next (Some new) = Ok (new, next)

-- the platter with these sectors in place, and the next sector; or the code
abbrev pub written_at : List ℕ → ℕ → List (List ℕ) → Result (List ℕ × ℕ) ℕ
written_at image at sectors = written (at + length sectors) (raw image at sectors)

-- WHAT A SAVE GIVES: the platter with the record of the values, and the next sector
abbrev pub saved : List ℕ → ℕ → List Value → Result (List ℕ × ℕ) ℕ
saved image at values = if nat_le (length (record_of values)) 255 then written_at image at (record_of values) else Err D81_FILE_FULL

-- WHAT AN END GIVES: the platter with the end mark, and the next sector
abbrev pub ended : List ℕ → ℕ → Result (List ℕ × ℕ) ℕ
ended image at = written_at image at (end_mark ∷ [])

-- bytes, and 00 to the end of their sector
abbrev pub filled : List ℕ → List ℕ
filled bytes = bytes ++ replicate (256 - length bytes) 0

-- WHAT PUTTING A BLOCK GIVES: the platter with the bytes, and the next sector
abbrev pub block_put : List ℕ → ℕ → List ℕ → Result (List ℕ × ℕ) ℕ
block_put image at bytes = written_at image at (filled bytes ∷ [])

-- WHAT IS IN A SECTOR, or the code
abbrev pub block_at : List ℕ → ℕ → Result (List ℕ) ℕ
block_at image at = if nat_lt at (sectors_of image) then Ok (sector image at) else Err I98_SECTOR

-- what is loaded from a sector of the platter: none at the end mark, and else the first values of the record there
abbrev pub loaded_there : List ℕ → ℕ → List Kind → Result (Option (List Value × ℕ)) ℕ
loaded_there image at kinds = if bytes_eq (sector image at) end_mark then Ok None else first_asked kinds at (record_at image at (sectors_of image - 1))

-- WHAT A LOAD GIVES: none, the first values and the next sector, or a code
abbrev pub loaded : List ℕ → ℕ → List Kind → Result (Option (List Value × ℕ)) ℕ
loaded image at kinds = if nat_lt at (sectors_of image) then loaded_there image at kinds else Err I98_SECTOR
