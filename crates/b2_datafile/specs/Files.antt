-- A data file: records one after the other, and an end mark.
use Rattle.std.specs.Prelude.{◌≡◌, ℕ, ◌+◌, ◌-◌, ◌≤◌, ◌⊎◌, Bool, false, ◌||◌, nat_le, List, [], ◌∷◌, Option, Result, Ok, Err}
use Rattle.std.specs.Str.{bytes_eq}
use Rattle.b2_dec.specs.declared.values.Value.{Value}
use Rattle.b2_platter.specs.Layout.{layout_of}
use Rattle.b2_platter.specs.Image.{sector, sectors_at}
use Rattle.b2_platter.specs.Edits.{put_sector}
use Rattle.b2_base.specs.declared.files.Slot.{Slot}
use Rattle.b2_catalog.specs.declared.entry.Entry.{Entry}
use Rattle.b2_catalog.specs.Changes.{control_sector}
use Rattle.b2_catalog.specs.Making.{MakesFile, file_made}
use Rattle.b2_record.specs.EndSector.{end_mark}
use Rattle.b2_record.specs.Records.{Spells}
use Rattle.b2_datafile.specs.Slots.{opened}

-- records fill the sectors from one on, up to another
abbrev pub Fills : List ℕ → ℕ → ℕ → List (List Value) → Type 0
Fills image at pos [] = at ≡ pos
Fills image at pos (values ∷ records) = (n : ℕ) × Spells values (sectors_at image at n) × Fills image (at + n) pos records

-- the records of a file up to a place
abbrev pub IsFront : List ℕ → Entry → ℕ → List (List Value) → Type 0
IsFront image e pos records = Fills image e.start pos records

-- the records of a file up to its end mark, which stands where the file says that its used sectors end
pub record IsWhole (image : List ℕ) (e : Entry) (records : List (List Value)) : Type 0 where
  pub front : IsFront image e (e.start + e.used - 1) records
  pub mark : sector image (e.start + e.used - 1) ≡ end_mark

-- a place where the records end: that of the control sector, one after it, or one with the end mark
abbrev pub IsEndOfRecords : List ℕ → Entry → ℕ → Type 0
IsEndOfRecords image e pos = (e.end ≤ pos) ⊎ (sector image pos ≡ end_mark)

-- whether they do
abbrev pub ends_records : List ℕ → Entry → ℕ → Bool
ends_records image e pos = nat_le e.end pos || bytes_eq (sector image pos) end_mark

-- the end mark at a place, and the control sector that says so
abbrev pub with_end : List ℕ → Entry → ℕ → List ℕ
with_end image e pos = put_sector (put_sector image pos end_mark) e.end (control_sector (layout_of image) (pos - e.start + 1))

-- a data file that is made, with the end mark in its first sector
pub record MadeEmpty (image : List ℕ) (old : Option (List ℕ)) (name : List ℕ) (sectors : ℕ) (new : List ℕ) : Type 0 where
  pub e : Entry
  pub between : List ℕ
  pub made : MakesFile image old name false sectors between e
  pub same : new ≡ with_end between e e.start

-- a file that is made, with the end mark in its first sector, and its slot; or why none is made
abbrev pub emptied_and_opened : List ℕ → Result (List ℕ × Entry) ℕ → Result (List ℕ × Slot) ℕ
emptied_and_opened addr (Err code) = Err code
emptied_and_opened addr (Ok made) = Ok (with_end made.0 made.1 made.1.start, opened addr made.1)

-- THE IMAGE AND THE SLOT of a data file that is made and opened, or why none is
unfoldable pub new_opened : List ℕ → List ℕ → Option (List ℕ) → ℕ → List ℕ → Result (List ℕ × Slot) ℕ
new_opened image addr old sectors name = emptied_and_opened addr (file_made image old name false sectors)
