-- What becomes of the files on a store's platters, whoever asks for what.
use Rattle.std.specs.Prelude.{◌≡◌, ◌↔◌, ◌≤◌, ◌+◌, ◌-◌, ◌⊎◌, ℕ, true, false, List, [], ◌∷◌, ◌++◌, Option, Some}
use Rattle.std.specs.FinMap.{get}
use Rattle.b2_base.specs.declared.files.By.{By}
use Rattle.b2_base.specs.declared.files.Slot.{Slot}
use Rattle.b2_dec.specs.declared.values.Kind.{Kind}
use Rattle.b2_dec.specs.declared.values.Value.{Value}
use Rattle.b2_platter.specs.Checks.{IsGood}
use Rattle.b2_platter.specs.Image.{index_of, sector}
use Rattle.b2_catalog.specs.declared.entry.Entry.{Entry}
use Rattle.b2_catalog.specs.Catalogue.{catalogue}
use Rattle.b2_record.specs.Items.{AllStorable}
use Rattle.b2_datafile.specs.Files.{IsFront, IsWhole}
use Rattle.b2_datafile.specs.Loading.{LoadsRecord}
use Rattle.b2_datafile.specs.Moving.{Moves}
use Rattle.b2_datafile.specs.Slots.{opened}
use Rattle.b2_access.specs.declared.accesses.Access.{Access}
use Rattle.b2_access.specs.declared.accesses.Access.TheVariants as access
use Rattle.b2_access.specs.declared.accesses.Answer.TheVariants as answer
use Rattle.b2_access.specs.declared.objects.Object.TheVariants as object
use Rattle.b2_access.specs.Causes.{NobodyComesFirst}
use Rattle.b2_access.specs.Fitting.{HasImages}
use Rattle.b2_access.specs.Store.{StoreState, content}
use Rattle.b2_access.specs.Touching.{IsLegal}
use Rattle.b2_store.specs.DiskWork.{serves}

-- each platter of a store is good
abbrev pub AreGood : StoreState → Type 0
AreGood s = HasImages IsGood s

-- and sound: good, with an index of at most 255 sectors, as one of bytes has
abbrev pub IsSound : List ℕ → Type 0
IsSound image = IsGood image × (index_of image ≤ 255)

abbrev pub AreSound : StoreState → Type 0
AreSound s = HasImages IsSound s

-- a live data file stands on a listed platter
pub record HasFile (s : StoreState) (addr : List ℕ) (e : Entry) (image : List ℕ) : Type 0 where
  pub there : content s (object.Platter addr) ≡ Some image
  pub good : IsGood image
  pub file : get (catalogue image) e.name ≡ Some e
  pub live : e.live ≡ true
  pub of_data : e.program ≡ false

-- with these records up to a place of it, or up to its end mark
abbrev pub HasFront : StoreState → List ℕ → Entry → ℕ → List (List Value) → Type 0
HasFront s addr e pos records = (image : List ℕ) × HasFile s addr e image × IsFront image e pos records

abbrev pub HasWhole : StoreState → List ℕ → Entry → List (List Value) → Type 0
HasWhole s addr e records = (image : List ℕ) × HasFile s addr e image × IsWhole image e records

-- a slot is one in which a file is open
abbrev pub Opens : Slot → Entry → Type 0
Opens slot e = (slot.name ≡ e.name) × (slot.start ≡ e.start)

-- A record that is saved at a place follows the records up to there, if its numbers are such as there are: with it they go up to the place
-- that is told.
abbrev pub SavedRecordsFollow : Type 0
SavedRecordsFollow =
    (who : ℕ) (slot : Slot) (values : List Value) (to : ℕ) (s : StoreState) (e : Entry) (records : List (List Value))
    → IsLegal (access.DataSave slot values) → AllStorable values → Opens slot e → HasFront s slot.addr e slot.pos records → (serves s who (access.DataSave slot values)).answer ≡ answer.Moved to
    → HasFront (serves s who (access.DataSave slot values)).after slot.addr e to (records ++ values ∷ [])

-- An end mark that is written at a place makes the records up to there the whole of the file, and the place stays.
abbrev pub EndedFilesAreWhole : Type 0
EndedFilesAreWhole =
    (who : ℕ) (slot : Slot) (to : ℕ) (s : StoreState) (e : Entry) (records : List (List Value))
    → IsLegal (access.DataEnd slot) → Opens slot e → HasFront s slot.addr e slot.pos records → (serves s who (access.DataEnd slot)).answer ≡ answer.Moved to
    → (to ≡ slot.pos) × HasWhole (serves s who (access.DataEnd slot)).after slot.addr (record e { used = slot.pos - e.start + 1 }) records

-- a record that stands at a place has at least as many values as are asked, the first of them of the asked kinds and just these, and
-- follows the records up to there
abbrev pub FollowsWith : List ℕ → Entry → ℕ → List (List Value) → List Kind → List Value → ℕ → Type 0
FollowsWith image e pos records kinds asked to = (r : LoadsRecord image e pos kinds asked to) × IsFront image e to (records ++ r.values ∷ [])

-- Values are loaded at a place exactly where such a record stands there, unless another partition comes first; and nothing changes.
abbrev pub LoadedRecordsFollow : Type 0
LoadedRecordsFollow =
    (who : ℕ) (slot : Slot) (kinds : List Kind) (asked : List Value) (to : ℕ) (s : StoreState) (e : Entry) (image : List ℕ) (records : List (List Value))
    → Opens slot e → HasFile s slot.addr e image → IsFront image e slot.pos records → NobodyComesFirst s who (access.DataLoad slot kinds)
    → ((serves s who (access.DataLoad slot kinds)).answer ≡ answer.Values asked to) ↔ FollowsWith image e slot.pos records kinds asked to

-- A place that is moved goes over the records that stand there.
abbrev pub MovedPlacesGoOver : Type 0
MovedPlacesGoOver =
    (who : ℕ) (slot : Slot) (way : By) (to : ℕ) (s : StoreState) (e : Entry) (image : List ℕ)
    → Opens slot e → HasFile s slot.addr e image → (serves s who (access.Skip slot way)).answer ≡ answer.Moved to → Moves image e slot.pos way to

-- A data file that is made has no records.
abbrev pub MadeFilesAreEmpty : Type 0
MadeFilesAreEmpty =
    (who : ℕ) (addr : List ℕ) (old : Option (List ℕ)) (sectors : ℕ) (name image : List ℕ) (slot : Slot) (s : StoreState)
    → IsLegal (access.DataNew addr old sectors name) → content s (object.Platter addr) ≡ Some image → IsGood image
    → (serves s who (access.DataNew addr old sectors name)).answer ≡ answer.Opened slot
    → (e : Entry) × (slot ≡ opened addr e) × HasWhole (serves s who (access.DataNew addr old sectors name)).after addr e []

-- An access is about a file where it makes, saves, ends or scratches the one of its name on its disk, takes its sectors again, moves a
-- file to that name, or takes all files of the disk away.
abbrev pub IsAbout : List ℕ → List ℕ → Access → Type 0
IsAbout addr name (access.Scratch d n) = (d ≡ addr) × (n ≡ name)
IsAbout addr name (access.Format d index end) = d ≡ addr
IsAbout addr name (access.DataNew d old sectors n) = (d ≡ addr) × ((n ≡ name) ⊎ (old ≡ Some name))
IsAbout addr name (access.DataSave slot values) = (slot.addr ≡ addr) × (slot.name ≡ name)
IsAbout addr name (access.DataEnd slot) = (slot.addr ≡ addr) × (slot.name ≡ name)
IsAbout addr name (access.SaveProgram d old n from to) = (d ≡ addr) × ((n ≡ name) ⊎ (old ≡ Some name))
IsAbout addr name (access.MovePlatter from to) = to ≡ addr
IsAbout addr name (access.MoveFile from n to) = (to ≡ addr) × (n ≡ name)
IsAbout addr name a = ⊥

-- a file stays as it is in another image: its entry in the catalogue, and each of its sectors
pub record StaysAs (image new : List ℕ) (e : Entry) : Type 0 where
  pub file : get (catalogue new) e.name ≡ Some e
  pub sectors : (n : ℕ) → e.start ≤ n → n ≤ e.end → sector new n ≡ sector image n

-- A file that an access isn't about stays as it is, whoever asks and whatever is answered, and so does each platter good that holds it.
abbrev pub OtherFilesStay : Type 0
OtherFilesStay =
    (who : ℕ) (a : Access) (s : StoreState) (addr image : List ℕ) (e : Entry)
    → IsLegal a → AreGood s → content s (object.Platter addr) ≡ Some image → get (catalogue image) e.name ≡ Some e → (IsAbout addr e.name a → ⊥)
    → (new : List ℕ) × (content (serves s who a).after (object.Platter addr) ≡ Some new) × IsGood new × StaysAs image new e

-- So its records stay, up to a place and up to its end mark.
abbrev pub OtherRecordsStay : Type 0
OtherRecordsStay =
    (who : ℕ) (a : Access) (s : StoreState) (addr : List ℕ) (e : Entry) (records : List (List Value))
    → IsLegal a → AreGood s → (IsAbout addr e.name a → ⊥)
    → ((pos : ℕ) → pos ≤ e.end + 1 → HasFront s addr e pos records → HasFront (serves s who a).after addr e pos records)
    × (HasWhole s addr e records → HasWhole (serves s who a).after addr e records)

-- Each access leaves every platter sound.
abbrev pub PlattersStaySound : Type 0
PlattersStaySound = (who : ℕ) (a : Access) (s : StoreState) → IsLegal a → AreSound s → AreSound (serves s who a).after
