-- A slot of the index: sixteen bytes. Its first byte is its status, its second its kind, then come the first and the
-- last sector of its file, and its last eight bytes are the file's name.
use Rattle.std.specs.Prelude.{ℕ, Bool, ◌&&◌, ◌||◌, ◌==◌, List, take, drop, slice_index, if◌then◌else◌}
use Rattle.std.specs.List.{list_all}
use Rattle.b2_base.specs.Names.{is_name8}
use Rattle.b2_platter.specs.declared.layout.Layout.{Layout}
use Rattle.b2_platter.specs.declared.slot.TheConstants.{FREE, LIVE, SCRATCHED, GONE, PROGRAM, DATA}
use Rattle.b2_platter.specs.Layout.{sector_number_at, first_place, second_place, third_place, is_zero}

abbrev pub status : List ℕ → ℕ
status slot = slice_index slot 0

-- never used
unfoldable pub is_free : List ℕ → Bool
is_free slot = status slot == FREE

-- the file was renamed away
unfoldable pub is_gone : List ℕ → Bool
is_gone slot = status slot == GONE

-- a live file
unfoldable pub is_live : List ℕ → Bool
is_live slot = status slot == LIVE

-- a file, live or scratched
unfoldable pub is_entry : List ℕ → Bool
is_entry slot = (status slot == LIVE) || (status slot == SCRATCHED)

-- a program
unfoldable pub is_program : List ℕ → Bool
is_program slot = slice_index slot 1 == PROGRAM

unfoldable pub has_kind : List ℕ → Bool
has_kind slot = (slice_index slot 1 == PROGRAM) || (slice_index slot 1 == DATA)

-- the first sector of the file
unfoldable pub slot_start : Layout → List ℕ → ℕ
slot_start layout slot = sector_number_at layout first_place slot

-- its last sector
unfoldable pub slot_end : Layout → List ℕ → ℕ
slot_end layout slot = sector_number_at layout (second_place layout) slot

unfoldable pub slot_name : List ℕ → List ℕ
slot_name slot = drop 8 slot

-- a free or a gone slot is 00 after its status; a file has a kind, 00 before its name, and a legal name
unfoldable pub is_spelled : Layout → List ℕ → Bool
is_spelled layout slot =
    if is_entry slot then has_kind slot && list_all is_zero (drop (third_place layout) (take 8 slot)) && is_name8 (slot_name slot)
    else (is_free slot || is_gone slot) && list_all is_zero (drop 1 slot)
