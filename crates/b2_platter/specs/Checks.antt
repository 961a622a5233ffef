-- What makes an image good: nine checks, each of which speaks of an image that passes those before it.
use Rattle.std.specs.Prelude.{◌≡◌, ℕ, ◌-◌, ◌/◌, ◌%◌, Bool, true, ◌&&◌, ◌||◌, ◌==◌, not, nat_le, nat_lt, List, [], ◌∷◌, length, drop, slice_index, Option, Some, None, if◌then◌else◌}
use Rattle.std.specs.List.{list_all}
use Rattle.std.specs.Str.{bytes_eq}
use Rattle.b2_platter.specs.declared.checks.TheConstants.{CONTROL}
use Rattle.b2_platter.specs.declared.layout.Layout.{Layout}
use Rattle.b2_platter.specs.declared.layout.TheConstants.{MOST_SECTORS}
use Rattle.b2_platter.specs.Layout.{version_of, most_sectors, sector_number_at, used_place, used_end, fourth_place, is_zero, layout_of}
use Rattle.b2_platter.specs.Slot.{is_entry, is_spelled, slot_start, slot_end, slot_name}
use Rattle.b2_platter.specs.Image.{row, image_head, sector, index_of, total_of, catalogue_end, next_free, slots_of, has_free, hash, cyclic_from, is_clear_to}

-- 1: whole sectors, 16 of them up to the most that any layout allows
unfoldable pub is_sized : List ℕ → Bool
is_sized image =
    (length image % 256 == 0) && nat_le 16 (length image / 256) && nat_le (length image / 256) MOST_SECTORS

-- 2: the version, at most its number of sectors, an index, the number of sectors, and 00 after the head's numbers
unfoldable pub has_head : Layout → List ℕ → Bool
has_head layout image =
    (slice_index (image_head image) 0 == version_of layout) && nat_le (length image / 256) (most_sectors layout) && nat_le 1 (index_of image)
    && (total_of layout image == length image / 256) && list_all is_zero (drop (fourth_place layout) (image_head image))

-- 3: the index, the files, the catalogue's end and the image's end stand in this order
unfoldable pub is_ordered : Layout → List ℕ → Bool
is_ordered layout image =
    nat_le (index_of image) (next_free layout image) && nat_le (next_free layout image) (catalogue_end layout image)
    && nat_le (catalogue_end layout image) (total_of layout image)

-- 4: a file lies between the index and the next free sector, and has two sectors or more
unfoldable pub lies_in : Layout → ℕ → ℕ → List ℕ → Bool
lies_in layout index next slot =
    not (is_entry slot)
    || (nat_le index (slot_start layout slot) && nat_lt (slot_start layout slot) (slot_end layout slot) && nat_lt (slot_end layout slot) next)

abbrev pub all_lie_in : Layout → List ℕ → Bool
all_lie_in layout image =
    list_all (λ k. lies_in layout (index_of image) (next_free layout image) (row image k)) (slots_of (index_of image))

-- 5: each slot is spelled as its status wants
abbrev pub all_spelled : Layout → List ℕ → Bool
all_spelled layout image = list_all (λ k. is_spelled layout (row image k)) (slots_of (index_of image))

-- a relation between each two of a list, the earlier one first
abbrev pub each_two : (ℕ → ℕ → Bool) → List ℕ → Bool
each_two related [] = true
each_two related (j ∷ ks) = list_all (related j) ks && each_two related ks

-- 6: no two files have one name
unfoldable pub differ_in_name : List ℕ → List ℕ → Bool
differ_in_name slot other = not (is_entry slot && is_entry other && bytes_eq (slot_name slot) (slot_name other))

abbrev pub all_differ : List ℕ → Bool
all_differ image = each_two (λ j k. differ_in_name (row image j) (row image k)) (slots_of (index_of image))

-- 7: on the way from a file's hash to its slot, no sector before has a free slot
unfoldable pub is_reachable : List ℕ → ℕ → Bool
is_reachable image k =
    not (is_entry (row image k))
    || is_clear_to (has_free image) (k / 16) (cyclic_from (index_of image) (hash (index_of image) (slot_name (row image k))))

abbrev pub all_reached : List ℕ → Bool
all_reached image = list_all (is_reachable image) (slots_of (index_of image))

-- 8: no two files share a sector
unfoldable pub lie_apart : Layout → List ℕ → List ℕ → Bool
lie_apart layout slot other =
    not (is_entry slot && is_entry other && nat_le (slot_start layout slot) (slot_end layout other) && nat_le (slot_start layout other) (slot_end layout slot))

abbrev pub all_apart : Layout → List ℕ → Bool
all_apart layout image = each_two (λ j k. lie_apart layout (row image j) (row image k)) (slots_of (index_of image))

-- how many sectors a control sector says are used
unfoldable pub used_of : Layout → List ℕ → ℕ
used_of layout control = sector_number_at layout used_place control

-- a control sector that says at least one and at most `most` sectors are used: its first byte, the number, and 00
unfoldable pub is_control : Layout → ℕ → List ℕ → Bool
is_control layout most control =
    (slice_index control 0 == CONTROL) && nat_le 1 (used_of layout control) && nat_le (used_of layout control) most
    && list_all is_zero (drop (used_end layout) control)

-- 9: the last sector of a file is its control sector
unfoldable pub is_controlled : Layout → List ℕ → List ℕ → Bool
is_controlled layout image slot =
    not (is_entry slot) || is_control layout (slot_end layout slot - slot_start layout slot) (sector image (slot_end layout slot))

abbrev pub all_controlled : Layout → List ℕ → Bool
all_controlled layout image = list_all (λ k. is_controlled layout image (row image k)) (slots_of (index_of image))

-- the first check that an image fails
unfoldable pub first_check : Layout → List ℕ → Option ℕ
first_check layout image =
    if not (is_sized image) then Some 1
    else (if not (has_head layout image) then Some 2
    else (if not (is_ordered layout image) then Some 3
    else (if not (all_lie_in layout image) then Some 4
    else (if not (all_spelled layout image) then Some 5
    else (if not (all_differ image) then Some 6
    else (if not (all_reached image) then Some 7
    else (if not (all_apart layout image) then Some 8
    else (if not (all_controlled layout image) then Some 9 else None))))))))

-- an image that fails none of them
abbrev pub Good : Layout → List ℕ → Type 0
Good layout image = first_check layout image ≡ None

-- the first check that an image fails in its own layout
abbrev pub own_check : List ℕ → Option ℕ
own_check image = first_check (layout_of image) image

-- an image that is good in its own layout
abbrev pub IsGood : List ℕ → Type 0
IsGood image = Good (layout_of image) image
