-- The listing of a catalogue: a line for the head, and a line for each file in the order of the slots.
use Rattle.std.specs.Prelude.{ℕ, Bool, List, [], ◌++◌, codes, decimal, if◌then◌else◌}
use Rattle.std.specs.List.{flat_map}
use Rattle.b2_platter.specs.Slot.{is_entry, is_live, is_program, slot_name}
use Rattle.b2_platter.specs.Image.{row, index_of, slots_of}
use Rattle.b2_platter.specs.Own.{end_of, next_of, first_of, last_of, used_by}

-- `INDEX i END e NEXT n`
unfoldable pub head_line : List ℕ → List ℕ
head_line image =
    codes "INDEX " ++ decimal (index_of image) ++ codes " END " ++ decimal (end_of image) ++ codes " NEXT " ++ decimal (next_of image) ++ codes "\n"

-- a space, P or D, and S where the file is scratched
abbrev pub marks_of : Bool → Bool → List ℕ
marks_of program live = if program then (if live then codes " P" else codes " PS") else (if live then codes " D" else codes " DS")

-- a space and a number
abbrev pub spaced : ℕ → List ℕ
spaced n = codes " " ++ decimal n

-- the name in eight bytes, the marks, and the first, the last and the used sectors
unfoldable pub file_line : List ℕ → ℕ → List ℕ
file_line image k =
    slot_name (row image k) ++ marks_of (is_program (row image k)) (is_live (row image k)) ++ spaced (first_of image k) ++ spaced (last_of image k) ++ spaced (used_by image k) ++ codes "\n"

-- the line of a slot, where it is a file's
abbrev pub slot_line : List ℕ → ℕ → List ℕ
slot_line image k = if is_entry (row image k) then file_line image k else []

unfoldable pub listing_of : List ℕ → List ℕ
listing_of image = head_line image ++ flat_map (slot_line image) (slots_of (index_of image))
