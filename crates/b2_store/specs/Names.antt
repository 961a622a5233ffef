-- Who holds names: one name is given up, or another is taken for it.
use Rattle.std.specs.Prelude.{◌≡◌, ◌<◌, ℕ, List, length, get_or, Option, Some, None, if◌then◌else◌}
use Rattle.b2_access.specs.declared.objects.Object.TheVariants as object
use Rattle.b2_access.specs.AccessRows.{is_held_by}
use Rattle.b2_access.specs.Rows.{NameRows, device_row, with_device_row}
use Rattle.b2_access.specs.Store.{StoreState, content, put}

-- what the eight bytes of a name are
pub record AreEight (bs : List ℕ) : Type 0 where
  pub eight : length bs ≡ 8
  pub bytes : (i : ℕ) → get_or bs i 0 < 256

-- nobody holds a name any more, where it has a row
abbrev pub freed_in : Option (Option ℕ) → List ℕ → NameRows → NameRows
freed_in None name rows = rows
freed_in (Some holder) name rows = with_device_row name rows None

abbrev pub freed_rows : List ℕ → NameRows → NameRows
freed_rows name rows = freed_in (device_row name rows) name rows

abbrev pub freed : List ℕ → StoreState → StoreState
freed name s = record s { names = freed_rows name s.names }

-- a partition gives up a name, where it holds it
abbrev pub without_one : ℕ → List ℕ → StoreState → StoreState
without_one who name s = if is_held_by who (content s (object.Name name)) then freed name s else s

abbrev pub without_name : ℕ → Option (List ℕ) → StoreState → StoreState
without_name who None s = s
without_name who (Some name) s = without_one who name s

-- it gives up one, and holds another
abbrev pub named : ℕ → List ℕ → Option (List ℕ) → StoreState → StoreState
named who name old s = put (object.Name name) (Some who) (without_name who old s)
