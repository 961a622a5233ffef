-- How an image spells numbers: its version, how many bytes a sector number takes, and how many sectors it may have.
use Rattle.std.specs.Prelude.{ℕ, ◌+◌, ◌*◌, ◌^◌, Bool, ◌==◌, List, [], ◌∷◌, drop, if◌then◌else◌}
use Rattle.byteorder.specs.Endian.{big_number}
use Rattle.b2_platter.specs.declared.layout.TheConstants.{MOST_SECTORS}
use Rattle.b2_platter.specs.declared.layout.Layout.{Layout}
use Rattle.b2_platter.specs.declared.layout.Layout.TheVariants.{Narrow, Wide}

-- the first byte of an image
abbrev pub version_of : Layout → ℕ
version_of Narrow = 1
version_of Wide = 2

-- how many bytes a sector number takes
abbrev pub width_of : Layout → ℕ
width_of Narrow = 2
width_of Wide = 3

-- what each sector number is below
abbrev pub number_limit : Layout → ℕ
number_limit layout = 256 ^ width_of layout

-- how many sectors an image has at most
abbrev pub most_sectors : Layout → ℕ
most_sectors Narrow = 32512
most_sectors Wide = MOST_SECTORS

-- the sector number that stands at a place, its highest byte first
abbrev pub sector_number_at : Layout → ℕ → List ℕ → ℕ
sector_number_at layout place bytes = big_number (width_of layout) (drop place bytes)

-- where the first, the second and the third sector number of a head or of a slot stand: after two bytes
abbrev pub first_place : ℕ
first_place = 2

abbrev pub second_place : Layout → ℕ
second_place layout = 2 + width_of layout

abbrev pub third_place : Layout → ℕ
third_place layout = 2 + 2 * width_of layout

-- where the head's sector numbers end
abbrev pub fourth_place : Layout → ℕ
fourth_place layout = 2 + 3 * width_of layout

-- where the sector number of a control sector stands, and where it ends
abbrev pub used_place : ℕ
used_place = 1

abbrev pub used_end : Layout → ℕ
used_end layout = used_place + width_of layout

-- a byte that spells nothing
abbrev pub is_zero : ℕ → Bool
is_zero b = b == 0

-- the layout of a version
abbrev pub by_version : ℕ → Layout
by_version version = if version == 2 then Wide else Narrow

-- the layout of an image, by its first byte
unfoldable pub layout_of : List ℕ → Layout
layout_of [] = Narrow
layout_of (b ∷ rest) = by_version b
