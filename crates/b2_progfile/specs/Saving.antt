-- Which lines are saved, the sectors that are written, why a program isn't saved, and the image that saving leaves.
use Rattle.std.specs.Prelude.{◌≡◌, ℕ, ◌+◌, ◌-◌, ◌*◌, ◌/◌, true, min, nat_lt, List, ◌∷◌, ◌++◌, length, take, drop, filter, map, replicate, Option, Some, None, Result, Ok, Err, if◌then◌else◌}
use Rattle.std.specs.List.{range_with_len}
use Rattle.std.specs.FinMap.{get}
use Rattle.b2_base.specs.declared.codes.Fault.{Fault}
use Rattle.b2_base.specs.declared.codes.Fault.TheVariants as fault
use Rattle.b2_base.specs.declared.codes.TheConstants.{D86_NO_ROOM}
use Rattle.b2_platter.specs.Layout.{layout_of}
use Rattle.b2_platter.specs.Edits.{put_sector, put_from}
use Rattle.b2_catalog.specs.declared.entry.Entry.{Entry}
use Rattle.b2_catalog.specs.Catalogue.{catalogue}
use Rattle.b2_catalog.specs.Changes.{control_sector}
use Rattle.b2_catalog.specs.Calls.{enter_refusal, reuse_refusal}
use Rattle.b2_catalog.specs.Making.{MakesFile, file_made}
use Rattle.b2_catalog.specs.Results.{unless_refused}
use Rattle.b2_text.specs.Program.{Lines, is_within}
use Rattle.b2_progfile.specs.declared.spelling.TheConstants.{PIECE, PIECE_BYTES}
use Rattle.b2_progfile.specs.Programs.{program_bytes}

-- the lines from a number to another
abbrev pub lines_between : ℕ → ℕ → Lines → Lines
lines_between from to lines = filter (λ l. is_within from to l.0) lines

-- the lines from a number to another that are saved; no line has a number above 9999
abbrev pub lines_within : ℕ → ℕ → Lines → Lines
lines_within from to lines = lines_between from (min to 9999) lines

-- a sector with some bytes of a program, and 00 to the end
abbrev pub text_sector : List ℕ → List ℕ
text_sector bytes = PIECE ∷ (bytes ++ replicate (PIECE_BYTES - length bytes) 0)

-- how many sectors hold some bytes
abbrev pub pieces_count : List ℕ → ℕ
pieces_count bytes = (length bytes + (PIECE_BYTES - 1)) / PIECE_BYTES

-- the k-th sector that holds some of the bytes
abbrev pub piece_at : List ℕ → ℕ → List ℕ
piece_at bytes k = text_sector (take PIECE_BYTES (drop (PIECE_BYTES * k) bytes))

-- all of them
abbrev pub text_sectors : List ℕ → List (List ℕ)
text_sectors bytes = map (piece_at bytes) (range_with_len 0 (pieces_count bytes))

-- the sectors of a program
abbrev pub program_sectors : Lines → List (List ℕ)
program_sectors lines = text_sectors (program_bytes lines)

-- an old file is too small for some sectors and its control sector
abbrev pub size_refusal : Option Entry → ℕ → Option ℕ
size_refusal None count = None
size_refusal (Some e) count = if nat_lt (e.end - e.start) count then Some D86_NO_ROOM else None

abbrev pub or_then : Option ℕ → Option ℕ → Option ℕ
or_then (Some code) other = Some code
or_then None other = other

-- why no file is made for some sectors: as a new file, or as a scratched file that is taken again
abbrev pub save_refusal : List ℕ → Option (List ℕ) → List ℕ → ℕ → Option ℕ
save_refusal image None name count = enter_refusal image name (count + 1)
save_refusal image (Some old) name count = or_then (reuse_refusal image old name) (size_refusal (get (catalogue image) old) count)

-- a file's sectors are these, and its control sector says that some of them are used
abbrev pub file_filled_with : List ℕ → ℕ → ℕ → List (List ℕ) → ℕ → List ℕ
file_filled_with image start end sectors used = put_sector (put_from image start sectors) end (control_sector (layout_of image) used)

-- the same where all of them are
abbrev pub file_filled : List ℕ → ℕ → ℕ → List (List ℕ) → List ℕ
file_filled image start end sectors = file_filled_with image start end sectors (length sectors)

-- a program is saved: a file is made for its sectors, and filled with them
pub record Saved (image : List ℕ) (old : Option (List ℕ)) (name : List ℕ) (lines : Lines) (new : List ℕ) : Type 0 where
  pub e : Entry
  pub between : List ℕ
  pub made : MakesFile image old name true (length (program_sectors lines) + 1) between e
  pub same : new ≡ file_filled between e.start e.end (program_sectors lines)

-- why a program isn't saved: no file is made for its sectors; or memory failed
abbrev pub SaveFails : List ℕ → Option (List ℕ) → List ℕ → Lines → Fault → Type 0
SaveFails image old name lines (fault.Code code) = save_refusal image old name (length (program_sectors lines)) ≡ Some code
SaveFails image old name lines fault.NoMemory = Unit {0}

-- the image of a file that is made, filled with these sectors
abbrev pub filled_with : List (List ℕ) → Result (List ℕ × Entry) ℕ → Result (List ℕ) ℕ
filled_with sectors (Err code) = Err code
filled_with sectors (Ok made) = Ok (file_filled made.0 made.1.start made.1.end sectors)

abbrev pub sectors_saved : List ℕ → Option (List ℕ) → List ℕ → List (List ℕ) → Result (List ℕ) ℕ
sectors_saved image old name sectors =
    unless_refused (save_refusal image old name (length sectors)) (filled_with sectors (file_made image old name true (length sectors + 1)))

-- THE IMAGE that saving a program leaves, or why it isn't saved
unfoldable pub program_saved : List ℕ → Option (List ℕ) → List ℕ → Lines → Result (List ℕ) ℕ
program_saved image old name lines = sectors_saved image old name (program_sectors lines)
