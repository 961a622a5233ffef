-- What the calls do to the catalogue.
use Rattle.std.specs.Prelude.{ℕ, ◌+◌, ◌-◌, Bool, true, false, not, ◌&&◌, nat_lt, is_some, is_none, List, Option, Some, None, if◌then◌else◌}
use Rattle.std.specs.Str.{bytes_eq}
use Rattle.std.specs.FinMap.{get, insert}
use Rattle.b2_base.specs.declared.codes.TheConstants.{D82_NO_FILE, D83_NAME_PRESENT, D84_NOT_SCRATCHED, D85_INDEX_FULL, D86_NO_ROOM}
use Rattle.b2_platter.specs.Own.{end_of, next_of}
use Rattle.b2_catalog.specs.declared.entry.Entry.{Entry}
use Rattle.b2_catalog.specs.Catalogue.{Catalogue, catalogue}
use Rattle.b2_catalog.specs.Ways.{place, slot_found}

-- with the file at a name, where there is one, no longer live
abbrev pub with_scratched : Catalogue → List ℕ → Option Entry → Catalogue
with_scratched files name None = files
with_scratched files name (Some e) = insert files name (record e { live = false })

abbrev pub catalogue_scratched : Catalogue → List ℕ → Catalogue
catalogue_scratched files name = with_scratched files name (get files name)

-- why a new file is refused: its name is there, or no slot is free, or the catalogue has no room for its sectors
abbrev pub enter_refusal : List ℕ → List ℕ → ℕ → Option ℕ
enter_refusal image name sectors =
    if is_some (get (catalogue image) name) then Some D83_NAME_PRESENT
    else (if is_none (place image name) then Some D85_INDEX_FULL
    else (if nat_lt (end_of image) (next_of image + sectors) then Some D86_NO_ROOM else None))

-- the file that is entered
abbrev pub new_entry : List ℕ → List ℕ → Bool → ℕ → Entry
new_entry image name program sectors =
    record { name = name; live = true; program = program; start = next_of image; end = next_of image + sectors - 1; used = 1 }

-- why an old file is refused: it isn't there, or it is live, or its new name has no slot
abbrev pub old_refusal : Option Entry → Bool → Option ℕ
old_refusal None full = Some D82_NO_FILE
old_refusal (Some e) full = if e.live then Some D84_NOT_SCRATCHED else (if full then Some D85_INDEX_FULL else None)

-- before that, a new name that is there
abbrev pub reuse_refusal : List ℕ → List ℕ → List ℕ → Option ℕ
reuse_refusal image old name =
    if not (bytes_eq old name) && is_some (get (catalogue image) name) then Some D83_NAME_PRESENT
    else old_refusal (get (catalogue image) old) (not (bytes_eq old name) && is_none (place image name))

-- the slot of a reused file: its own, or the place of its new name
abbrev pub reused_place : List ℕ → List ℕ → List ℕ → Option ℕ
reused_place image old name = if bytes_eq old name then slot_found image old else place image name
