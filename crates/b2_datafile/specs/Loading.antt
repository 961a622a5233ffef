-- What is loaded from a place of a file, and why nothing is.
use Rattle.std.specs.Prelude.{◌≡◌, ℕ, ◌+◌, ◌-◌, ◌<◌, ◌≤◌, ◌⊎◌, true, false, List, length, take, Option, Some, None, Result, Ok, Err, if◌then◌else◌}
use Rattle.std.specs.Global.{Vec as GlobalVec}
use Rattle.b2_base.specs.declared.codes.Fault.{Fault}
use Rattle.b2_base.specs.declared.codes.Fault.TheVariants as fault
use Rattle.b2_base.specs.declared.codes.TheConstants.{D80_NOT_OPEN, D88_FORMAT, X70_TOO_LITTLE, X74_OTHER_KIND}
use Rattle.b2_base.specs.declared.files.Slot.{Slot}
use Rattle.b2_catalog.specs.declared.entry.Entry.{Entry}
use Rattle.b2_dec.specs.declared.values.Value.{Value}
use Rattle.b2_dec.specs.declared.values.Kind.{Kind}
use Rattle.b2_platter.specs.Image.{sectors_at}
use Rattle.b2_record.specs.Asking.{agree, first_asked}
use Rattle.b2_record.specs.Records.{Spells, IsNoRecord}
use Rattle.b2_record.specs.Reading.{record_at}
use Rattle.b2_datafile.specs.Files.{IsEndOfRecords, ends_records}
use Rattle.b2_datafile.specs.Slots.{file_of}

-- a record stands at a place of a file, before its control sector
pub record IsRecordAt (image : List ℕ) (e : Entry) (pos : ℕ) (values : List Value) (n : ℕ) : Type 0 where
  pub spelled : Spells values (sectors_at image pos n)
  pub within : pos + n ≤ e.end

-- what is loaded of the record at a place: its first values, which are of the kinds that are asked, and the place after it
pub record LoadsRecord (image : List ℕ) (e : Entry) (pos : ℕ) (kinds : List Kind) (asked : List Value) (next : ℕ) : Type 0 where
  pub values : List Value
  pub n : ℕ
  pub there : IsRecordAt image e pos values n
  pub after : next ≡ pos + n
  pub fit : agree kinds values ≡ true
  pub enough : length kinds ≤ length values
  pub first_ones : asked ≡ take (length kinds) values

-- why no record is loaded from a place: none is spelled there, or a value is of another kind, or there are too few
abbrev pub RecordFails : List ℕ → Entry → ℕ → List Kind → ℕ → Type 0
RecordFails image e pos kinds code =
    ((code ≡ D88_FORMAT) × IsNoRecord image pos (e.end - 1))
    ⊎ ((values : List Value) × (n : ℕ) × IsRecordAt image e pos values n
    × (((code ≡ X74_OTHER_KIND) × (agree kinds values ≡ false)) ⊎ ((code ≡ X70_TOO_LITTLE) × (agree kinds values ≡ true) × (length values < length kinds))))

-- what a load gives: nothing where the records end, and else of the record there
abbrev pub Loads : List ℕ → Slot → List Kind → Option (GlobalVec Value × ℕ) → Type 0
Loads image slot kinds None = (e : Entry) × (file_of image slot ≡ Some e) × IsEndOfRecords image e slot.pos
Loads image slot kinds (Some found) = (e : Entry) × (file_of image slot ≡ Some e) × ¬ IsEndOfRecords image e slot.pos × LoadsRecord image e slot.pos kinds found.0.items found.1

-- why a load gives nothing: the slot's file isn't there, or no record is loaded; or memory failed
abbrev pub LoadFails : List ℕ → Slot → List Kind → Fault → Type 0
LoadFails image slot kinds (fault.Code code) =
    ((code ≡ D80_NOT_OPEN) × (file_of image slot ≡ None))
    ⊎ ((e : Entry) × (file_of image slot ≡ Some e) × ¬ IsEndOfRecords image e slot.pos × RecordFails image e slot.pos kinds code)
LoadFails image slot kinds fault.NoMemory = Unit {0}

-- what is loaded at a place of a file
abbrev pub loaded_from : List ℕ → ℕ → List Kind → Option Entry → Result (Option (List Value × ℕ)) ℕ
loaded_from image pos kinds None = Err D80_NOT_OPEN
loaded_from image pos kinds (Some e) = if ends_records image e pos then Ok None else first_asked kinds pos (record_at image pos (e.end - 1))

-- WHAT A LOAD GIVES at a slot's place: none where the records end, the first values and the place after them, or a code
unfoldable pub values_loaded : List ℕ → Slot → List Kind → Result (Option (List Value × ℕ)) ℕ
values_loaded image slot kinds = loaded_from image slot.pos kinds (file_of image slot)
