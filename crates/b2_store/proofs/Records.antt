-- Records that are saved, ended and loaded through the store.
use Rattle.std.proofs.Common.{◌≡◌, ℕ, zero, suc, ◌+◌, ◌-◌, ◌≤◌, ◌&&◌, Bool, true, false, if◌then◌else◌, List, [], ◌∷◌, ◌++◌, length, Option, Some, None, Ok, refl, sym, ap, ap₂, subst, ◌∙◌, inl, inr, arith}
use Rattle.std.specs.Prelude.{nat_le}
use Rattle.std.specs.FinMap.{get}
use Rattle.std.specs.List.{list_all}
use Rattle.std.proofs.lemmas.Bool.{and_parts, eq-eqb, leb-true}
use Rattle.b2_base.specs.declared.codes.TheConstants.{D81_FILE_FULL}
use Rattle.b2_base.specs.declared.files.Slot.{Slot}
use Rattle.b2_dec.specs.declared.values.Kind.{Kind}
use Rattle.b2_dec.specs.declared.values.Value.{Value}
use Rattle.b2_dec.specs.declared.values.Value.TheVariants as value
use Rattle.b2_platter.specs.Checks.{IsGood}
use Rattle.b2_platter.specs.Edits.{put_from}
use Rattle.b2_platter.specs.Image.{sector, sectors_at}
use Rattle.b2_platter.proofs.SectorRuns.{AllLong}
use Rattle.b2_catalog.specs.declared.entry.Entry.{Entry}
use Rattle.b2_catalog.specs.Catalogue.{Catalogue, catalogue}
use Rattle.b2_catalog.proofs.DataSectors.{get-put}
use Rattle.b2_record.specs.Items.{AllStorable, is_short}
use Rattle.b2_record.specs.Records.{Spells, sectors_from}
use Rattle.b2_record.specs.Writing.{groups_of, record_of}
use Rattle.b2_record.proofs.Groups.{parted-groups, record-spelled}
use Rattle.b2_record.proofs.Unique.{record-length}
use Rattle.b2_datafile.specs.Files.{IsEndOfRecords, IsFront, with_end}
use Rattle.b2_datafile.specs.Laws.{EndsAt, SavesAt}
use Rattle.b2_datafile.specs.Loading.{LoadsRecord, values_loaded}
use Rattle.b2_datafile.specs.Moving.{Moves}
use Rattle.b2_datafile.specs.Slots.{file_of, open_file, write_refusal}
use Rattle.b2_datafile.proofs.Fronts.{fills-more}
use Rattle.b2_record.proofs.EndSector.{no-mark}
use Rattle.b2_record.proofs.Whole.{long-groups}
use Rattle.b2_datafile.proofs.FromFunctions.{place-goes, some-loaded}
use Rattle.b2_datafile.proofs.Functions.{record-loaded}
use Rattle.b2_datafile.proofs.SkippedRecords.{some-groups}
use Rattle.b2_datafile.proofs.Saved.{saved-good, saved-files, saved-front, with_end-files, with_end-good, with_end-whole}
use Rattle.b2_access.specs.declared.accesses.Access.TheVariants as access
use Rattle.b2_access.specs.declared.accesses.Answer.TheVariants as answer
use Rattle.b2_access.specs.AccessRows.{loaded_answer, row}
use Rattle.b2_access.specs.AnswerKinds.{stops}
use Rattle.b2_access.specs.Disks.{Loaded, Made}
use Rattle.b2_access.specs.Stopping.{first_other, first_there, inside_edited}
use Rattle.b2_access.specs.Store.{StoreState}
use Rattle.b2_access.specs.Touching as touching
use Rattle.b2_access.proofs.RowLaws.{nobody_first}
use Rattle.b2_store.specs.Files.{EndedFilesAreWhole, FollowsWith, HasFile, LoadedRecordsFollow, MovedPlacesGoOver, Opens, SavedRecordsFollow}
use Rattle.b2_store.specs.FileWork.{file_ended, loaded_or, place_skipped, record_loaded, record_saved}
use Rattle.b2_store.proofs.Answered.{end-told, loaded-is, save-told}
use Rattle.b2_store.proofs.Served.{changed-by, found-by, told-by}

-- ---- the file of a slot

pub file-open : (s : StoreState) (slot : Slot) (e : Entry) (image : List ℕ) → Opens slot e → HasFile s slot.addr e image → file_of image slot ≡ Some e
file-open s slot e image opens file =
    ap (λ (n : List ℕ). open_file (get (catalogue image) n) slot.start) opens.0
    ∙ (ap (λ (o : Option Entry). open_file o slot.start) file.file
    ∙ rw (file.live, file.of_data, eq-eqb e.start slot.start (sym opens.1)) refl)

-- some sectors may be written at a place of it
pub allowed-room : (e : Entry) (pos n : ℕ) → write_refusal (Some e) pos n ≡ None → (pos + n ≤ e.end) × (n ≤ 255)
allowed-room e pos n h = by_test (nat_le (pos + n) e.end && nat_le n 255) refl h
  where
    by_test : (b : Bool) → (nat_le (pos + n) e.end && nat_le n 255) ≡ b → (if b then None else Some D81_FILE_FULL) ≡ None → (pos + n ≤ e.end) × (n ≤ 255)
    by_test true is same = let parts = and_parts (nat_le (pos + n) e.end) (nat_le n 255) is in (leb-true (pos + n) e.end parts.0, leb-true n 255 parts.1)
    by_test false is same = cc

-- ---- a record that is saved

short-one : (v : Value) → touching.is_short v ≡ is_short v
short-one (value.Number x) = refl
short-one (value.Alpha bytes) = refl

short-all : (values : List Value) → list_all touching.is_short values ≡ list_all is_short values
short-all [] = refl
short-all (v ∷ values) = ap₂ (λ (a b : Bool). a && b) (short-one v) (short-all values)

groups-count : (number : ℕ) (groups : List (List Value)) → length (sectors_from number groups) ≡ length groups
groups-count number [] = refl
groups-count number (g ∷ groups) = ap suc (groups-count (number + 1) groups)

record-is : (values : List Value) → list_all touching.is_short values ≡ true → AllStorable values → length (record_of values) ≤ 255 → Spells values (record_of values)
record-is values short storable few = record-spelled values storable (sym (short-all values) ∙ short) (omega (arith, few, groups-count 1 (groups_of values)))

-- each of its sectors is whole, whatever its numbers are
pub record-long : (values : List Value) → list_all touching.is_short values ≡ true → AllLong (record_of values)
record-long values short = long-groups (groups_of values) (parted-groups [] values refl (sym (short-all values) ∙ short))

saves-at : (image : List ℕ) (slot : Slot) (e : Entry) (values : List Value) → IsGood image → get (catalogue image) e.name ≡ Some e → file_of image slot ≡ Some e → e.start ≤ slot.pos
    → list_all touching.is_short values ≡ true → AllStorable values → write_refusal (file_of image slot) slot.pos (length (record_of values)) ≡ None → SavesAt image e slot.pos values
saves-at image slot e values good file is low short storable none =
    let room = allowed-room e slot.pos (length (record_of values)) (ap (λ (o : Option Entry). write_refusal o slot.pos (length (record_of values))) (sym is) ∙ none) in
    record { good = good; file = file; record_is = record-is values short storable room.1; low = low; high = room.0 }

same-place : (a b : ℕ) → answer.Moved a ≡ answer.Moved b → a ≡ b
same-place a b h = cc

pub saved-follow : SavedRecordsFollow
saved-follow who slot values to s e records legal storable opens front told =
    let a = access.DataSave slot values in
    let image = front.0 in
    let file = front.1 in
    let b = changed-by s slot.addr image file.there (answer.Moved slot.pos) (λ m. m.image) (λ m. answer.Moved m.told) (record_saved slot values)
    (first_other who (first_there (row a).reach s)) (inside_edited who (row a).reach.text s) (ap stops told) in
    let t = save-told slot values image b.new b.is in
    let is = file-open s slot e image opens file in
    let at = saves-at image slot e values file.good file.file is (let low = legal.1 in omega (arith, low, opens.1)) legal.0 storable t.0 in
    let place : slot.pos + length (record_of values) ≡ to = sym (ap (λ (m : Made ℕ). m.told) t.1) ∙ same-place b.new.told to (sym b.told ∙ told) in
    let new : b.new.image ≡ put_from image slot.pos (record_of values) = ap (λ (m : Made ℕ). m.image) t.1 in (
      put_from image slot.pos (record_of values),
      record {
        there = b.there ∙ ap Some new;
        good = saved-good image e slot.pos values at;
        file = ap (λ (files : Catalogue). get files e.name) (saved-files image e slot.pos values at) ∙ file.file;
        live = file.live;
        of_data = file.of_data;
      },
      subst (λ (p : ℕ). IsFront (put_from image slot.pos (record_of values)) e p (records ++ values ∷ [])) place (saved-front image e slot.pos values records at front.2),
    )

-- ---- an end mark

pub ends-at : (image : List ℕ) (slot : Slot) (e : Entry) → IsGood image → get (catalogue image) e.name ≡ Some e → e.start ≤ slot.pos → write_refusal (Some e) slot.pos 1 ≡ None → EndsAt image e slot.pos
ends-at image slot e good file low none = let room = (allowed-room e slot.pos 1 none).0 in record { good = good; file = file; low = low; high = omega (arith, room) }

same-entry : (o : Option Entry) (e f : Entry) → o ≡ Some e → o ≡ Some f → f ≡ e
same-entry o e f h k = let both : Some f ≡ Some e = sym k ∙ h in cc

pub ended-whole : EndedFilesAreWhole
ended-whole who slot to s e records legal opens front told =
    let a = access.DataEnd slot in
    let image = front.0 in
    let file = front.1 in
    let b = changed-by s slot.addr image file.there (answer.Moved slot.pos) (λ m. m.image) (λ m. answer.Moved m.told) (file_ended slot)
    (first_other who (first_there (row a).reach s)) (inside_edited who (row a).reach.text s) (ap stops told) in
    let t = end-told slot image (file_of image slot) b.new b.is in
    let same : t.0 ≡ e = same-entry (file_of image slot) e t.0 (file-open s slot e image opens file) t.1 in
    let at = ends-at image slot e file.good file.file (omega (arith, legal, opens.1)) (subst (λ (f : Entry). write_refusal (Some f) slot.pos 1 ≡ None) same t.2) in
    let used : Entry = record e { used = slot.pos - e.start + 1 } in
    let new : b.new.image ≡ with_end image e slot.pos = ap (λ (m : Made ℕ). m.image) t.3 ∙ ap (λ (f : Entry). with_end image f slot.pos) same in
    let place : slot.pos ≡ to = sym (ap (λ (m : Made ℕ). m.told) t.3) ∙ same-place b.new.told to (sym b.told ∙ told) in (
      sym place,
      (
        with_end image e slot.pos,
        record {
          there = b.there ∙ ap Some new;
          good = with_end-good image e slot.pos at;
          file = ap (λ (files : Catalogue). get files e.name) (with_end-files image e slot.pos at) ∙ get-put (catalogue image) e.name used;
          live = file.live;
          of_data = file.of_data;
        },
        with_end-whole image e slot.pos records at front.2,
      ),
    )

-- ---- a record that is loaded

no-end : (image : List ℕ) (e : Entry) (pos : ℕ) (kinds : List Kind) (asked : List Value) (to : ℕ) → LoadsRecord image e pos kinds asked to → IsEndOfRecords image e pos → ⊥
no-end image e pos kinds asked to r (inl past) =
    let p = r.there.spelled in
    let some = some-groups p.groups p.split in
    let count = record-length image pos r.n r.values p in
    let within = r.there.within in
    omega (arith, past, some, count, within)
no-end image e pos kinds asked to r (inr mark) = let p = r.there.spelled in no-mark image pos r.n p.groups p.split p.same mark

follows : (image : List ℕ) (e : Entry) (pos : ℕ) (kinds : List Kind) (records : List (List Value)) (asked : List Value) (to : ℕ) → IsFront image e pos records
    → LoadsRecord image e pos kinds asked to → FollowsWith image e pos records kinds asked to
follows image e pos kinds records asked to front r =
    (r, subst (λ (p : ℕ). IsFront image e p (records ++ r.values ∷ [])) (sym r.after) (fills-more image e.start pos r.n records r.values front r.there.spelled))

loaded-values : (o : Option Loaded) (asked : List Value) (to : ℕ) → loaded_answer o ≡ answer.Values asked to → o ≡ Some (record { values = asked; place = to })
loaded-values None asked to h = cc
loaded-values (Some l) asked to h =
    let values : l.values ≡ asked = cc in
    let place : l.place ≡ to = cc in
    ap₂ (λ (vs : List Value) (p : ℕ). Some (record { values = vs; place = p })) values place

pub loaded-follow : LoadedRecordsFollow
loaded-follow who slot kinds asked to s e image records opens file front nobody =
    let a = access.DataLoad slot kinds in
    let first = first_other who (first_there (row a).reach s) in
    let is = file-open s slot e image opens file in (
      (λ told.
          let f = found-by s slot.addr image file.there answer.AtEnd loaded_answer (record_loaded slot kinds) first None (ap stops told) in
          let one = loaded-values f.found asked to (sym f.told ∙ told) in
          let l = some-loaded image slot kinds (asked, to) (loaded-is (values_loaded image slot kinds) (record { values = asked; place = to }) (f.is ∙ ap Ok one)) in
          let same : l.0 ≡ e = same-entry (file_of image slot) e l.0 is l.1 in
          follows image e slot.pos kinds records asked to front (subst (λ (x : Entry). LoadsRecord image x slot.pos kinds asked to) same l.3)),
      (λ next.
          let given = record-loaded image slot kinds e asked to is (no-end image e slot.pos kinds asked to next.0) next.0 in
          told-by s slot.addr image file.there answer.AtEnd loaded_answer (record_loaded slot kinds) (Some (record { values = asked; place = to })) first ((nobody_first who (first_there (row a).reach s)).1 nobody) (ap loaded_or given)),
    )

-- ---- a place that is moved

pub moved-over : MovedPlacesGoOver
moved-over who slot way to s e image opens file told =
    let a = access.Skip slot way in
    let f = found-by s slot.addr image file.there (answer.Moved slot.pos) answer.Moved (place_skipped slot way) (first_other who (first_there (row a).reach s)) (inside_edited who (row a).reach.text s) (ap stops told) in
    let m = place-goes image slot way to (f.is ∙ ap Ok (same-place f.found to (sym f.told ∙ told))) in
    subst (λ (x : Entry). Moves image x slot.pos way to) (same-entry (file_of image slot) e m.0 (file-open s slot e image opens file) m.1) m.2
