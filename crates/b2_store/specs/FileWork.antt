-- What disks do with data files, programs and sectors, by the definitions of the crates of files and of sectors.
use Rattle.std.specs.Prelude.{ℕ, ◌+◌, Bool, List, length, Result, Ok, Err, Option, Some, None}
use Rattle.std.specs.FinMap.{get}
use Rattle.b2_base.specs.declared.codes.TheConstants.{D80_NOT_OPEN, D82_NO_FILE}
use Rattle.b2_base.specs.declared.files.By.{By}
use Rattle.b2_base.specs.declared.files.Slot.{Slot}
use Rattle.b2_dec.specs.declared.values.Kind.{Kind}
use Rattle.b2_dec.specs.declared.values.Value.{Value}
use Rattle.b2_platter.specs.Edits.{put_from}
use Rattle.b2_text.specs.Program.{TextState}
use Rattle.b2_catalog.specs.declared.entry.Entry.{Entry}
use Rattle.b2_catalog.specs.Catalogue.{catalogue}
use Rattle.b2_catalog.specs.Results.{unless_refused}
use Rattle.b2_record.specs.Writing.{record_of}
use Rattle.b2_datafile.specs.Files.{new_opened, with_end}
use Rattle.b2_datafile.specs.Loading.{values_loaded}
use Rattle.b2_datafile.specs.Moving.{place_moved}
use Rattle.b2_datafile.specs.Slots.{file_of, open_refusal, opened, write_refusal}
use Rattle.b2_progfile.specs.Loading.{text_loaded}
use Rattle.b2_progfile.specs.Moving.{file_refusal, with_copy}
use Rattle.b2_progfile.specs.MovingAll.{platter_moved}
use Rattle.b2_progfile.specs.Saving.{lines_within, program_saved}
use Rattle.b2_raw.specs.Raw.{block_at, block_put, ended, loaded, saved}
use Rattle.b2_access.specs.Disks.{Loaded, Made}

-- an image that was made, with what is told of that
abbrev pub as_made : {Told : Type 0} → Result (List ℕ × Told) ℕ → Result (Made Told) ℕ
as_made (Ok made) = Ok (record { image = made.0; told = made.1 })
as_made (Err code) = Err code

abbrev pub new_file : List ℕ → Option (List ℕ) → ℕ → List ℕ → List ℕ → Result (Made Slot) ℕ
new_file addr old sectors name image = as_made (new_opened image addr old sectors name)

-- a data file that is opened
abbrev pub entry_opened : List ℕ → Option Entry → Result Slot ℕ
entry_opened addr None = Err D82_NO_FILE
entry_opened addr (Some e) = unless_refused (open_refusal (Some e)) (Ok (opened addr e))

abbrev pub file_opened : List ℕ → List ℕ → List ℕ → Result Slot ℕ
file_opened addr name image = entry_opened addr (get (catalogue image) name)

-- a record is saved at the place, and the place goes after it
abbrev pub record_saved : Slot → List Value → List ℕ → Result (Made ℕ) ℕ
record_saved slot values image =
    unless_refused (write_refusal (file_of image slot) slot.pos (length (record_of values)))
    (Ok (record { image = put_from image slot.pos (record_of values); told = slot.pos + length (record_of values) }))

-- the end mark is written at the place, which stays
abbrev pub entry_ended : Slot → List ℕ → Option Entry → Result (Made ℕ) ℕ
entry_ended slot image None = Err D80_NOT_OPEN
entry_ended slot image (Some e) = unless_refused (write_refusal (Some e) slot.pos 1) (Ok (record { image = with_end image e slot.pos; told = slot.pos }))

abbrev pub file_ended : Slot → List ℕ → Result (Made ℕ) ℕ
file_ended slot image = entry_ended slot image (file_of image slot)

-- what is loaded at the place, and the place after it
abbrev pub as_loaded : Option (List Value × ℕ) → Option Loaded
as_loaded None = None
as_loaded (Some found) = Some (record { values = found.0; place = found.1 })

abbrev pub loaded_or : Result (Option (List Value × ℕ)) ℕ → Result (Option Loaded) ℕ
loaded_or (Ok found) = Ok (as_loaded found)
loaded_or (Err code) = Err code

abbrev pub record_loaded : Slot → List Kind → List ℕ → Result (Option Loaded) ℕ
record_loaded slot kinds image = loaded_or (values_loaded image slot kinds)

abbrev pub place_skipped : Slot → By → List ℕ → Result ℕ ℕ
place_skipped slot way image = place_moved image slot way

-- a record, an end mark or bytes in sectors from one on, and the next sector; what is loaded from one on, and the bytes of one
abbrev pub raw_saved : ℕ → List Value → List ℕ → Result (Made ℕ) ℕ
raw_saved at values image = as_made (saved image at values)

abbrev pub raw_ended : ℕ → List ℕ → Result (Made ℕ) ℕ
raw_ended at image = as_made (ended image at)

abbrev pub raw_loaded : ℕ → List Kind → List ℕ → Result (Option Loaded) ℕ
raw_loaded at kinds image = loaded_or (loaded image at kinds)

abbrev pub block_saved : ℕ → List ℕ → List ℕ → Result (Made ℕ) ℕ
block_saved at bytes image = as_made (block_put image at bytes)

abbrev pub block_loaded : ℕ → List ℕ → Result (List ℕ) ℕ
block_loaded at image = block_at image at

-- the lines of a text that are saved, and those that are loaded
abbrev pub text_saved : Option (List ℕ) → List ℕ → ℕ → ℕ → TextState → List ℕ → Result (List ℕ) ℕ
text_saved old name from to text image = program_saved image old name (lines_within from to text.lines)

abbrev pub lines_loaded : List ℕ → Bool → List ℕ → TextState → Result TextState ℕ
lines_loaded name replace image text = text_loaded image name replace text

-- a file that is moved to another image
abbrev pub entry_moved : List ℕ → Option Entry → List ℕ → Result (List ℕ) ℕ
entry_moved from None to = Err D82_NO_FILE
entry_moved from (Some e) to = unless_refused (file_refusal (Some e) to) (Ok (with_copy from to e))

abbrev pub file_moved : List ℕ → List ℕ → List ℕ → Result (List ℕ) ℕ
file_moved name from to = entry_moved from (get (catalogue from) name) to

abbrev pub files_moved : List ℕ → List ℕ → Result (List ℕ) ℕ
files_moved from to = platter_moved from to

-- the file of a name, or all live files
abbrev pub moved : Option (List ℕ) → List ℕ → List ℕ → Result (List ℕ) ℕ
moved None from to = files_moved from to
moved (Some name) from to = file_moved name from to
