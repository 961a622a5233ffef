-- Rows and sectors as the catalogue's calls write them, and images with them in place.
use Rattle.std.specs.Prelude.{ℕ, ◌+◌, ◌-◌, ◌*◌, Bool, List, ◌∷◌, ◌++◌, take, drop, replicate, if◌then◌else◌}
use Rattle.b2_platter.specs.declared.checks.TheConstants.{CONTROL}
use Rattle.b2_platter.specs.declared.slot.TheConstants.{LIVE, SCRATCHED, GONE, PROGRAM, DATA}
use Rattle.b2_platter.specs.declared.layout.Layout.{Layout}
use Rattle.b2_platter.specs.Layout.{third_place, used_end, layout_of}
use Rattle.b2_platter.specs.Image.{index_of}
use Rattle.b2_platter.specs.Own.{sectors_of, end_of, next_of, first_of, last_of}
use Rattle.b2_platter.specs.Edits.{sector_number_bytes, head_bytes, put_sector}

-- row k is these bytes
unfoldable pub put_row : List ℕ → ℕ → List ℕ → List ℕ
put_row bytes k row = take (16 * k) bytes ++ (row ++ drop (16 * k + 16) bytes)

-- the kind of a program, or of data
abbrev pub kind_of : Bool → ℕ
kind_of program = if program then PROGRAM else DATA

-- the slot of a live file, in a layout
unfoldable pub file_slot : Layout → Bool → ℕ → ℕ → List ℕ → List ℕ
file_slot layout program start end name =
    LIVE ∷ kind_of program ∷ (sector_number_bytes layout start ++ sector_number_bytes layout end ++ replicate (8 - third_place layout) 0 ++ name)

-- the slot of a file that was scratched: its other bytes stay
unfoldable pub scratched_slot : List ℕ → List ℕ
scratched_slot slot = SCRATCHED ∷ drop 1 slot

-- the slot of a file that took another name
unfoldable pub gone_slot : List ℕ
gone_slot = GONE ∷ replicate 15 0

-- a control sector in a layout: its first byte, how many sectors are used, and 00
unfoldable pub control_sector : Layout → ℕ → List ℕ
control_sector layout used = CONTROL ∷ (sector_number_bytes layout used ++ replicate (256 - used_end layout) 0)

-- the head, with another next free sector
unfoldable pub head_with_next : List ℕ → ℕ → List ℕ
head_with_next image next = head_bytes (layout_of image) (index_of image) (sectors_of image) (end_of image) next

-- a new file in a slot: it takes the next free sectors, and the last of them says that one is used
unfoldable pub entered : List ℕ → ℕ → List ℕ → Bool → ℕ → List ℕ
entered image k name program sectors =
    put_sector
    (put_row (put_row image 0 (head_with_next image (next_of image + sectors))) k (file_slot (layout_of image) program (next_of image) (next_of image + sectors - 1) name))
    (next_of image + sectors - 1) (control_sector (layout_of image) 1)

-- a file under another name, or under its own again: its slot is gone, and a slot is that of the live file
unfoldable pub reused : List ℕ → ℕ → ℕ → List ℕ → Bool → List ℕ
reused image k to name program =
    put_row (put_row image k gone_slot) to (file_slot (layout_of image) program (first_of image k) (last_of image k) name)
