-- What a slot opens, and why a call on it is refused.
use Rattle.std.specs.Prelude.{ℕ, ◌+◌, not, ◌&&◌, ◌==◌, nat_le, List, Option, Some, None, if◌then◌else◌}
use Rattle.std.specs.FinMap.{get}
use Rattle.b2_base.specs.declared.codes.TheConstants.{D80_NOT_OPEN, D81_FILE_FULL, D82_NO_FILE, D89_OTHER_KIND}
use Rattle.b2_base.specs.declared.files.Slot.{Slot}
use Rattle.b2_catalog.specs.declared.entry.Entry.{Entry}
use Rattle.b2_catalog.specs.Catalogue.{catalogue}

-- why the file of a name isn't opened: it isn't there or isn't live, or it is a program
abbrev pub open_refusal : Option Entry → Option ℕ
open_refusal None = Some D82_NO_FILE
open_refusal (Some e) = if not e.live then Some D82_NO_FILE else (if e.program then Some D89_OTHER_KIND else None)

-- a file that is opened, with its first record next
abbrev pub opened : List ℕ → Entry → Slot
opened addr e = record { addr = addr; name = e.name; start = e.start; end = e.end; pos = e.start }

-- the live data file that begins at a sector, where the entry is that
abbrev pub open_file : Option Entry → ℕ → Option Entry
open_file None start = None
open_file (Some e) start = if e.live && not e.program && (e.start == start) then Some e else None

-- the file of a slot: the live data file of its name, where it begins at its start
abbrev pub file_of : List ℕ → Slot → Option Entry
file_of image slot = open_file (get (catalogue image) slot.name) slot.start

-- why some sectors aren't written at a place: the slot's file isn't there, or the sectors would pass the last one before
-- its control sector, or they are more than a record has
abbrev pub write_refusal : Option Entry → ℕ → ℕ → Option ℕ
write_refusal None pos sectors = Some D80_NOT_OPEN
write_refusal (Some e) pos sectors = if nat_le (pos + sectors) e.end && nat_le sectors 255 then None else Some D81_FILE_FULL
