-- What an image says in its own layout.
use Rattle.std.specs.Prelude.{ℕ, List}
use Rattle.b2_platter.specs.Layout.{layout_of}
use Rattle.b2_platter.specs.Slot.{slot_start, slot_end}
use Rattle.b2_platter.specs.Image.{row, sector, total_of, catalogue_end, next_free}
use Rattle.b2_platter.specs.Checks.{used_of}

-- how many sectors it has
abbrev pub sectors_of : List ℕ → ℕ
sectors_of image = total_of (layout_of image) image

-- the first sector after its catalogue
abbrev pub end_of : List ℕ → ℕ
end_of image = catalogue_end (layout_of image) image

-- the first sector that no file has
abbrev pub next_of : List ℕ → ℕ
next_of image = next_free (layout_of image) image

-- the first and the last sector of the file of a slot
abbrev pub first_of : List ℕ → ℕ → ℕ
first_of image k = slot_start (layout_of image) (row image k)

abbrev pub last_of : List ℕ → ℕ → ℕ
last_of image k = slot_end (layout_of image) (row image k)

-- how many sectors its control sector says are used
abbrev pub used_by : List ℕ → ℕ → ℕ
used_by image k = used_of (layout_of image) (sector image (last_of image k))
