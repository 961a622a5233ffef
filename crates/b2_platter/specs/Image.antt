-- An image: its sectors of 256 bytes, and its index in the first of them. The index is rows of sixteen bytes: row 0 is
-- the head, and each further row is a slot.
use Rattle.std.specs.Prelude.{ℕ, ◌+◌, ◌-◌, ◌*◌, ◌%◌, Bool, true, ◌&&◌, ◌||◌, ◌==◌, not, List, [], ◌∷◌, map, sum, take, drop, slice_index, if◌then◌else◌}
use Rattle.std.specs.List.{list_any, range_with_len}
use Rattle.b2_platter.specs.declared.layout.Layout.{Layout}
use Rattle.b2_platter.specs.Layout.{sector_number_at, first_place, second_place, third_place}
use Rattle.b2_platter.specs.Slot.{is_free}

-- the sixteen bytes of a row
unfoldable pub row : List ℕ → ℕ → List ℕ
row image k = take 16 (drop (16 * k) image)

-- the 256 bytes of a sector
unfoldable pub sector : List ℕ → ℕ → List ℕ
sector image n = take 256 (drop (256 * n) image)

-- some sectors, one after the other
abbrev pub sectors_at : List ℕ → ℕ → ℕ → List (List ℕ)
sectors_at image at n = map (sector image) (range_with_len at n)

abbrev pub image_head : List ℕ → List ℕ
image_head image = row image 0

-- how many sectors the index takes
unfoldable pub index_of : List ℕ → ℕ
index_of image = slice_index (image_head image) 1

-- how many sectors the head says there are
unfoldable pub total_of : Layout → List ℕ → ℕ
total_of layout image = sector_number_at layout first_place (image_head image)

-- the first sector after the catalogue
unfoldable pub catalogue_end : Layout → List ℕ → ℕ
catalogue_end layout image = sector_number_at layout (second_place layout) (image_head image)

-- the first sector that no file has
unfoldable pub next_free : Layout → List ℕ → ℕ
next_free layout image = sector_number_at layout (third_place layout) (image_head image)

-- the rows that are slots, in an index of some sectors
abbrev pub slots_of : ℕ → List ℕ
slots_of index = range_with_len 1 (16 * index - 1)

-- the first slot of an index sector: the head stands before the slots of sector 0
abbrev pub first_slot : ℕ → ℕ
first_slot s = if s == 0 then 1 else 16 * s

-- the rows that are slots in one sector of the index
abbrev pub slots_in : ℕ → List ℕ
slots_in s = range_with_len (first_slot s) (16 * s + 16 - first_slot s)

-- whether an index sector has a free slot
unfoldable pub has_free : List ℕ → ℕ → Bool
has_free image s = list_any (λ k. is_free (row image k)) (slots_in s)

-- where the look-up of a name begins: the sum of its bytes, by the number of index sectors
abbrev pub hash : ℕ → List ℕ → ℕ
hash index name = sum name % index

-- all index sectors, cyclically from one on
abbrev pub cyclic_from : ℕ → ℕ → List ℕ
cyclic_from index first = map (λ j. (first + j) % index) (range_with_len 0 index)

-- no sector before this one has a free slot
abbrev pub is_clear_to : (ℕ → Bool) → ℕ → List ℕ → Bool
is_clear_to free own [] = true
is_clear_to free own (s ∷ rest) = (s == own) || (not (free s) && is_clear_to free own rest)
