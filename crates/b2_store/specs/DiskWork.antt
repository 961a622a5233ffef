-- What disks do to an image, by the definitions of the catalogue and of files.
use Rattle.std.specs.Prelude.{ℕ, ◌&&◌, ℤ, pos, neg_ℤ, Bool, nat_le, nat_lt, List, Result, Ok, Err, Option, Some, None, if◌then◌else◌}
use Rattle.std.specs.FinMap.{get}
use Rattle.b2_base.specs.declared.codes.TheConstants.{D82_NO_FILE, P34_RANGE}
use Rattle.b2_platter.specs.Layout.{layout_of}
use Rattle.b2_platter.specs.Own.{sectors_of, end_of, next_of}
use Rattle.b2_platter.specs.Edits.{formatted}
use Rattle.b2_platter.specs.Image.{index_of, row}
use Rattle.b2_catalog.specs.declared.entry.Entry.{Entry}
use Rattle.b2_catalog.specs.Catalogue.{catalogue}
use Rattle.b2_catalog.specs.Changes.{put_row, scratched_slot}
use Rattle.b2_catalog.specs.Listing.{listing_of}
use Rattle.b2_catalog.specs.Ways.{slot_found}
use Rattle.b2_access.specs.AccessRows.{no_limits}
use Rattle.b2_access.specs.Disks.{DiskWork, FourNumbers}
use Rattle.b2_access.specs.Serving as serving
use Rattle.b2_store.specs.FileWork.{block_loaded, block_saved, file_ended, file_moved, file_opened, files_moved, lines_loaded, new_file, place_skipped, raw_ended, raw_loaded, raw_saved, record_loaded, record_saved, text_saved}
use Rattle.b2_access.specs.Sharing.{ServingOf}
use Rattle.b2_access.specs.Store.{StoreState}

-- the kind of a file: 1 a program, 2 data, negative where it is scratched
abbrev pub kind_number : Entry → ℤ
kind_number e = if e.program then (if e.live then pos 1 else neg_ℤ (pos 1)) else (if e.live then pos 2 else neg_ℤ (pos 2))

-- the first and the last sector, the sectors used and the kind of a file; all 0 where there is none
abbrev pub limits_of_file : Option Entry → FourNumbers
limits_of_file None = no_limits
limits_of_file (Some e) = record { first = pos e.start; second = pos e.end; third = pos e.used; fourth = kind_number e }

-- or the sectors of the index, the first sector after the catalogue and the next free one
abbrev pub limits_of : Option (List ℕ) → List ℕ → FourNumbers
limits_of None image = record { first = pos (index_of image); second = pos (end_of image); third = pos (next_of image); fourth = pos 0 }
limits_of (Some name) image = limits_of_file (get (catalogue image) name)

-- with the slot of a file scratched
abbrev pub scratched_image : List ℕ → Option ℕ → Result (List ℕ) ℕ
scratched_image image None = Err D82_NO_FILE
scratched_image image (Some k) = Ok (put_row image k (scratched_slot (row image k)))

-- with an empty index of 1 to 255 sectors, where the catalogue ends after it and on the platter
abbrev pub can_format : ℕ → ℕ → List ℕ → Bool
can_format index end image = nat_le 1 index && (nat_le index 255 && (nat_le index end && nat_lt end (sectors_of image)))

abbrev pub with_index : ℕ → ℕ → List ℕ → Result (List ℕ) ℕ
with_index index end image = if can_format index end image then Ok (formatted (layout_of image) image index end) else Err P34_RANGE

-- THE WORK OF DISKS
abbrev pub disks : DiskWork
disks = record {
  limits = limits_of;
  listing = listing_of;
  scratch = λ name image. scratched_image image (slot_found image name);
  format = with_index;
  data_new = new_file;
  data_open = file_opened;
  data_save = record_saved;
  data_end = file_ended;
  data_load = record_loaded;
  skip = place_skipped;
  raw_save = raw_saved;
  raw_end = raw_ended;
  raw_load = raw_loaded;
  block_save = block_saved;
  block_load = block_loaded;
  save_program = text_saved;
  load_program = lines_loaded;
  move_platter = files_moved;
  move_file = file_moved;
}

-- and how a store serves with it
abbrev pub serves : ServingOf StoreState
serves = serving.serves disks
