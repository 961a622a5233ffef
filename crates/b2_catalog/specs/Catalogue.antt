-- The catalogue of an image: the finite map from names to files, live and scratched, that its slots stand for.
use Rattle.std.specs.Prelude.{ℕ, List, Option, Some, None, if◌then◌else◌}
use Rattle.std.specs.List.{filter_map}
use Rattle.std.specs.Ordering.{nat_cmp}
use Rattle.std.specs.Cmp.Lexicographic.{slice_cmp}
use Rattle.std.specs.FinMap.{FinMap, from_entries}
use Rattle.b2_platter.specs.Slot.{is_entry, is_live, is_program, slot_name}
use Rattle.b2_platter.specs.Image.{row, index_of, slots_of}
use Rattle.b2_platter.specs.Own.{first_of, last_of, used_by}
use Rattle.b2_catalog.specs.declared.entry.Entry.{Entry}

-- the file of a slot
unfoldable pub entry_at : List ℕ → ℕ → Entry
entry_at image k =
    record {
      name = slot_name (row image k);
      live = is_live (row image k);
      program = is_program (row image k);
      start = first_of image k;
      end = last_of image k;
      used = used_by image k;
    }

-- a slot with its name, where it is that of a file
unfoldable pub named_entry : List ℕ → ℕ → Option (List ℕ × Entry)
named_entry image k = if is_entry (row image k) then Some (slot_name (row image k), entry_at image k) else None

abbrev pub Catalogue : Type 0
Catalogue = FinMap (slice_cmp nat_cmp) Entry

unfoldable pub catalogue : List ℕ → Catalogue
catalogue image = from_entries (filter_map (named_entry image) (slots_of (index_of image)))
