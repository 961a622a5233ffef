-- Images that are made or changed: a blank one, one that is formatted, and one with other sectors in place.
use Rattle.std.specs.Prelude.{ℕ, ◌+◌, ◌-◌, ◌*◌, ◌<◌, ◌≤◌, Bool, ◌&&◌, nat_le, nat_lt, List, [], ◌∷◌, ◌++◌, take, drop, replicate}
use Rattle.std.specs.List.{list_any}
use Rattle.byteorder.specs.Endian.{big_bytes}
use Rattle.b2_platter.specs.declared.layout.Layout.{Layout}
use Rattle.b2_platter.specs.Layout.{version_of, width_of, fourth_place}
use Rattle.b2_platter.specs.Slot.{is_entry, slot_start, slot_end}
use Rattle.b2_platter.specs.Image.{row, index_of, total_of, slots_of}

-- a sector number as it is spelled, its highest byte first
abbrev pub sector_number_bytes : Layout → ℕ → List ℕ
sector_number_bytes layout n = big_bytes (width_of layout) n

-- the head: version, index sectors, all sectors, the catalogue's end, the next free sector, and 00
unfoldable pub head_bytes : Layout → ℕ → ℕ → ℕ → ℕ → List ℕ
head_bytes layout index total end next =
    version_of layout ∷ index ∷ (sector_number_bytes layout total ++ sector_number_bytes layout end ++ sector_number_bytes layout next ++ replicate (16 - fourth_place layout) 0)

-- a blank image has an index of two sectors, and its catalogue takes all the rest
abbrev pub blank_image : Layout → ℕ → List ℕ
blank_image layout sectors = head_bytes layout 2 sectors sectors 2 ++ replicate (256 * sectors - 16) 0

-- what an index and a last sector of the catalogue must be
pub record CanFormat (layout : Layout) (image : List ℕ) (index end : ℕ) : Type 0 where
  pub some : 1 ≤ index
  pub few : index ≤ 255
  pub order : index < end + 1
  pub within : end + 1 ≤ total_of layout image

-- a formatted image has an empty index, and its other sectors stay
abbrev pub formatted : Layout → List ℕ → ℕ → ℕ → List ℕ
formatted layout image index end =
    head_bytes layout index (total_of layout image) (end + 1) index ++ replicate (256 * index - 16) 0 ++ drop (256 * index) image

-- sector n is these bytes
unfoldable pub put_sector : List ℕ → ℕ → List ℕ → List ℕ
put_sector image n bytes = take (256 * n) image ++ (bytes ++ drop (256 * n + 256) image)

-- and so is each of these, one after the other
abbrev pub put_sectors : List ℕ → List (ℕ × List ℕ) → List ℕ
put_sectors image [] = image
put_sectors image (edit ∷ edits) = put_sectors (put_sector image edit.0 edit.1) edits

-- the sectors from one on are these
abbrev pub put_from : List ℕ → ℕ → List (List ℕ) → List ℕ
put_from image at [] = image
put_from image at (s ∷ sectors) = put_from (put_sector image at s) (at + 1) sectors

-- a sector is one of the slot's file, and not its last, which is its control sector
unfoldable pub holds_data : Layout → List ℕ → ℕ → Bool
holds_data layout slot n = is_entry slot && nat_le (slot_start layout slot) n && nat_lt n (slot_end layout slot)

-- and so of some slot's file
unfoldable pub is_data_sector : Layout → List ℕ → ℕ → Bool
is_data_sector layout image n = list_any (λ k. holds_data layout (row image k) n) (slots_of (index_of image))
