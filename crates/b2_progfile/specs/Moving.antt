-- A file that is moved to another platter, and why it isn't.
use Rattle.std.specs.Prelude.{◌≡◌, ℕ, ◌+◌, ◌-◌, not, true, List, Option, Some, None, if◌then◌else◌}
use Rattle.std.specs.FinMap.{get, insert}
use Rattle.b2_base.specs.declared.codes.TheConstants.{D82_NO_FILE}
use Rattle.b2_platter.specs.Own.{next_of}
use Rattle.b2_platter.specs.Image.{sectors_at}
use Rattle.b2_catalog.specs.declared.entry.Entry.{Entry}
use Rattle.b2_catalog.specs.Catalogue.{catalogue}
use Rattle.b2_catalog.specs.Ways.{place}
use Rattle.b2_catalog.specs.Changes.{entered}
use Rattle.b2_catalog.specs.Calls.{enter_refusal}
use Rattle.b2_catalog.specs.Making.{KeepsOthers}
use Rattle.b2_progfile.specs.Saving.{file_filled_with}

-- the sectors of a file before its control sector
abbrev pub own_sectors : List ℕ → Entry → List (List ℕ)
own_sectors image e = sectors_at image e.start (e.end - e.start)

-- how many sectors a file has, with its control sector
abbrev pub all_sectors : Entry → ℕ
all_sectors e = e.end - e.start + 1

-- a live file of an image
pub record IsLiveFile (image : List ℕ) (e : Entry) : Type 0 where
  pub there : get (catalogue image) e.name ≡ Some e
  pub live : e.live ≡ true

-- a file as it stands from another sector on
abbrev pub entry_from : ℕ → Entry → Entry
entry_from start e = record e { start = start; end = start + (e.end - e.start) }

-- a file is entered in a slot with its kind and as many sectors, and has the same sectors and as many used
abbrev pub put_copy : List ℕ → List ℕ → Entry → Option ℕ → List ℕ
put_copy from image e None = image
put_copy from image e (Some k) =
    file_filled_with (entered image k e.name e.program (all_sectors e)) (next_of image) (next_of image + (e.end - e.start)) (own_sectors from e) e.used

-- an image with a copy of a file of another, in the slot of its name
abbrev pub with_copy : List ℕ → List ℕ → Entry → List ℕ
with_copy from image e = put_copy from image e (place image e.name)

-- why a file isn't moved: it isn't there or isn't live, or it isn't entered
abbrev pub file_refusal : Option Entry → List ℕ → Option ℕ
file_refusal None to = Some D82_NO_FILE
file_refusal (Some e) to = if not e.live then Some D82_NO_FILE else enter_refusal to e.name (all_sectors e)

abbrev pub move_refusal : List ℕ → List ℕ → List ℕ → Option ℕ
move_refusal from name to = file_refusal (get (catalogue from) name) to

-- a file is copied: the image is that with its copy, the catalogue has the file besides, it has the same sectors, and the
-- sectors of other files stay
pub record Copied (from to new : List ℕ) (e : Entry) : Type 0 where
  pub image : new ≡ with_copy from to e
  pub files : catalogue new ≡ insert (catalogue to) e.name (entry_from (next_of to) e)
  pub kept : sectors_at new (next_of to) (e.end - e.start) ≡ own_sectors from e
  pub others : KeepsOthers to new (entry_from (next_of to) e)

-- the live file of a name is moved
pub record Moved (from name to new : List ℕ) : Type 0 where
  pub e : Entry
  pub file : get (catalogue from) name ≡ Some e
  pub live : e.live ≡ true
  pub copied : Copied from to new e
