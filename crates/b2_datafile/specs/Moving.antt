-- How a place in a file is moved over records, and when it can't be.
use Rattle.std.specs.Prelude.{◌≡◌, ℕ, zero, suc, ◌+◌, ◌-◌, ◌<◌, ◌≤◌, ◌⊎◌, ◌&&◌, ◌==◌, nat_le, List, slice_index, Option, Some, None, min, Result, Ok, Err, if◌then◌else◌}
use Rattle.b2_base.specs.declared.codes.Fault.{Fault}
use Rattle.b2_base.specs.declared.codes.Fault.TheVariants as fault
use Rattle.b2_base.specs.declared.codes.TheConstants.{D80_NOT_OPEN, D88_FORMAT}
use Rattle.b2_base.specs.declared.files.Slot.{Slot}
use Rattle.b2_base.specs.declared.files.By.{By}
use Rattle.b2_base.specs.declared.files.By.TheVariants as by
use Rattle.b2_catalog.specs.declared.entry.Entry.{Entry}
use Rattle.b2_dec.specs.declared.values.Value.{Value}
use Rattle.b2_platter.specs.Image.{sector, sectors_at}
use Rattle.b2_record.specs.Records.{Spells, IsNoRecord}
use Rattle.b2_record.specs.Reading.{record_at}
use Rattle.b2_datafile.specs.Files.{IsEndOfRecords, ends_records}
use Rattle.b2_datafile.specs.Loading.{IsRecordAt}
use Rattle.b2_datafile.specs.Slots.{file_of}

-- over records towards the end: it stays where they end, and else goes over the record that stands there
abbrev pub Ahead : List ℕ → Entry → ℕ → ℕ → ℕ → Type 0
Ahead image e zero from to = from ≡ to
Ahead image e (suc count) from to =
    (IsEndOfRecords image e from × (from ≡ to))
    ⊎ ((values : List Value) × (n : ℕ) × ¬ IsEndOfRecords image e from × IsRecordAt image e from values n × Ahead image e count (from + n) to)

-- it can't where, after some records, neither their end nor a record follows
abbrev pub NoneAhead : List ℕ → Entry → ℕ → ℕ → Type 0
NoneAhead image e zero from = ⊥
NoneAhead image e (suc count) from =
    ¬ IsEndOfRecords image e from
    × (IsNoRecord image from (e.end - 1) ⊎ ((values : List Value) × (n : ℕ) × IsRecordAt image e from values n × NoneAhead image e count (from + n)))

-- a record ends directly before a place of a file
pub record IsRecordBefore (image : List ℕ) (e : Entry) (pos : ℕ) (values : List Value) (n : ℕ) : Type 0 where
  pub within : e.start + n ≤ pos
  pub spelled : Spells values (sectors_at image (pos - n) n)

-- no record ends directly before a place
abbrev pub IsNoRecordBefore : List ℕ → Entry → ℕ → Type 0
IsNoRecordBefore image e pos = (values : List Value) (n : ℕ) → ¬ IsRecordBefore image e pos values n

-- over records towards the beginning: it stays at the first sector, and else goes to where the record begins that ends
-- directly before it
abbrev pub Behind : List ℕ → Entry → ℕ → ℕ → ℕ → Type 0
Behind image e zero from to = from ≡ to
Behind image e (suc count) from to =
    ((from ≤ e.start) × (from ≡ to))
    ⊎ ((values : List Value) × (n : ℕ) × (e.start < from) × IsRecordBefore image e from values n × Behind image e count (from - n) to)

-- it can't where, before some records, none ends directly before the place
abbrev pub NoneBehind : List ℕ → Entry → ℕ → ℕ → Type 0
NoneBehind image e zero from = ⊥
NoneBehind image e (suc count) from =
    (e.start < from)
    × (IsNoRecordBefore image e from
    ⊎ ((values : List Value) × (n : ℕ) × IsRecordBefore image e from values n × NoneBehind image e count (from - n)))

-- the record that ends directly before a place begins at a sector
abbrev pub IsRecordFrom : List ℕ → Entry → ℕ → ℕ → Type 0
IsRecordFrom image e pos to = (values : List Value) × (n : ℕ) × IsRecordBefore image e pos values n × (to ≡ pos - n)

-- where a slot's place goes; a place after the control sector counts as the control sector's
abbrev pub Moves : List ℕ → Entry → ℕ → By → ℕ → Type 0
Moves image e pos (by.Forward count) to = Ahead image e count (min pos e.end) to
Moves image e pos (by.Back count) to = Behind image e count (min pos e.end) to
Moves image e pos by.Begin to = to ≡ e.start
Moves image e pos by.End to = to ≡ e.start + e.used - 1

abbrev pub NoMove : List ℕ → Entry → ℕ → By → Type 0
NoMove image e pos (by.Forward count) = NoneAhead image e count (min pos e.end)
NoMove image e pos (by.Back count) = NoneBehind image e count (min pos e.end)
NoMove image e pos by.Begin = ⊥
NoMove image e pos by.End = ⊥

-- why a slot's place isn't moved: its file isn't there, or there is no record to go over; or memory failed
abbrev pub SkipFails : List ℕ → Slot → By → Fault → Type 0
SkipFails image slot way (fault.Code code) =
    ((code ≡ D80_NOT_OPEN) × (file_of image slot ≡ None))
    ⊎ ((e : Entry) × (file_of image slot ≡ Some e) × (code ≡ D88_FORMAT) × NoMove image e slot.pos way)
SkipFails image slot way fault.NoMemory = Unit {0}

-- on over the sectors of a record that was read, where one was
abbrev pub over : Option (List Value × ℕ) → (ℕ → Result ℕ ℕ) → Result ℕ ℕ
over None on = Err D88_FORMAT
over (Some found) on = on found.1

-- the place after a number of records, or where they end
abbrev pub place_ahead : List ℕ → Entry → ℕ → ℕ → Result ℕ ℕ
place_ahead image e zero pos = Ok pos
place_ahead image e (suc count) pos =
    if ends_records image e pos then Ok pos else over (record_at image pos (e.end - 1)) (λ n. place_ahead image e count (pos + n))

-- a record that was read, where it has so many sectors
abbrev pub of_length : ℕ → Option (List Value × ℕ) → Option (List Value × ℕ)
of_length n None = None
of_length n (Some found) = if found.1 == n then Some found else None

-- the record of so many sectors that ends directly before a place of a file
abbrev pub ending_before : List ℕ → Entry → ℕ → ℕ → Option (List Value × ℕ)
ending_before image e pos n = if nat_le 1 n && nat_le (e.start + n) pos then of_length n (record_at image (pos - n) (pos - 1)) else None

-- the record that ends directly before a place: the number in its last sector says how many it has
abbrev pub record_before : List ℕ → Entry → ℕ → Option (List Value × ℕ)
record_before image e pos = ending_before image e pos (slice_index (sector image (pos - 1)) 1)

-- the place a number of records before, or the file's first
abbrev pub place_behind : List ℕ → Entry → ℕ → ℕ → Result ℕ ℕ
place_behind image e zero pos = Ok pos
place_behind image e (suc count) pos =
    if nat_le pos e.start then Ok pos else over (record_before image e pos) (λ n. place_behind image e count (pos - n))

abbrev pub moved_in : List ℕ → ℕ → By → Option Entry → Result ℕ ℕ
moved_in image pos way None = Err D80_NOT_OPEN
moved_in image pos (by.Forward count) (Some e) = place_ahead image e count (min pos e.end)
moved_in image pos (by.Back count) (Some e) = place_behind image e count (min pos e.end)
moved_in image pos by.Begin (Some e) = Ok e.start
moved_in image pos by.End (Some e) = Ok (e.start + e.used - 1)

-- WHERE A SLOT'S PLACE GOES, or why it doesn't
unfoldable pub place_moved : List ℕ → Slot → By → Result ℕ ℕ
place_moved image slot way = moved_in image slot.pos way (file_of image slot)
