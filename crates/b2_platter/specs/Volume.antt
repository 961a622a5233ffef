-- What an image says, as whole values: a platter's counts, its slots and its sectors. Its spelling is its image.
use Rattle.std.specs.Prelude.{ℕ, ◌+◌, ◌-◌, Bool, List, ◌∷◌, ◌++◌, map, length, replicate, if◌then◌else◌}
use Rattle.std.specs.List.{flat_map}
use Rattle.b2_platter.specs.declared.slot.TheConstants.{LIVE, SCRATCHED, GONE, PROGRAM, DATA}
use Rattle.b2_platter.specs.declared.layout.Layout.{Layout}
use Rattle.b2_platter.specs.Layout.{third_place, layout_of}
use Rattle.b2_platter.specs.Slot.{is_free, is_gone, is_live, is_program, slot_start, slot_end, slot_name}
use Rattle.b2_platter.specs.Image.{row, sectors_at, index_of, slots_of}
use Rattle.b2_platter.specs.Own.{sectors_of, end_of, next_of}
use Rattle.b2_platter.specs.Edits.{sector_number_bytes, head_bytes}

-- a file as its slot has it
pub record File : Type 0 where
  pub live : Bool
  pub program : Bool
  pub start : ℕ
  pub end : ℕ
  pub name : List ℕ

-- a slot: never used, given up, or a file's
pub data Slot : Type 0 where
  Free : Slot
  Gone : Slot
  Of : File → Slot

-- a platter: its layout, the index sectors, the first sector after the catalogue, the next free sector, the slots, and the sectors
-- after the index
pub record Volume : Type 0 where
  pub layout : Layout
  pub index : ℕ
  pub end : ℕ
  pub next : ℕ
  pub slots : List Slot
  pub sectors : List (List ℕ)

-- the sixteen bytes of a slot
abbrev pub slot_bytes : Layout → Slot → List ℕ
slot_bytes layout Free = replicate 16 0
slot_bytes layout Gone = GONE ∷ replicate 15 0
slot_bytes layout (Of f) =
    (if f.live then LIVE else SCRATCHED) ∷ (if f.program then PROGRAM else DATA)
    ∷ (sector_number_bytes layout f.start ++ sector_number_bytes layout f.end ++ replicate (8 - third_place layout) 0 ++ f.name)

-- the bytes of a platter: its head, its slots and its sectors, one after the other
abbrev pub image : Volume → List ℕ
image v =
    head_bytes v.layout v.index (v.index + length v.sectors) v.end v.next ++ (flat_map (slot_bytes v.layout) v.slots ++ flat_map (λ s. s) v.sectors)

-- what a row says as a slot
unfoldable pub slot_in_row : Layout → List ℕ → Slot
slot_in_row layout slot =
    if is_free slot then Free
    else (if is_gone slot then Gone
    else Of (record { live = is_live slot; program = is_program slot; start = slot_start layout slot; end = slot_end layout slot; name = slot_name slot }))

-- what an image says
abbrev pub volume : List ℕ → Volume
volume bytes =
    record {
      layout = layout_of bytes;
      index = index_of bytes;
      end = end_of bytes;
      next = next_of bytes;
      slots = map (λ k. slot_in_row (layout_of bytes) (row bytes k)) (slots_of (index_of bytes));
      sectors = sectors_at bytes (index_of bytes) (sectors_of bytes - index_of bytes);
    }
