-- An access leaves every file that it isn't about.
use Rattle.std.proofs.Common.{◌≡◌, ◌⊎◌, ℕ, ◌+◌, ◌-◌, ◌≤◌, Bool, true, false, List, length, Option, Some, None, Result, Ok, Err, refl, sym, ap, subst, ◌∙◌, inl, inr, arith}
use Rattle.std.specs.Option.{option_map}
use Rattle.std.specs.FinMap.{get}
use Rattle.std.specs.Str.{bytes_eq}
use Rattle.std.proofs.lemmas.Bool.{true≢false}
use Rattle.std.proofs.lemmas.Slice.Eq.{bytes_eq-Decides}
use Rattle.b2_base.specs.declared.files.Slot.{Slot}
use Rattle.b2_dec.specs.declared.values.Value.{Value}
use Rattle.b2_platter.specs.Checks.{IsGood}
use Rattle.b2_platter.specs.Edits.{put_from}
use Rattle.b2_text.specs.Program.{TextState}
use Rattle.b2_catalog.specs.declared.entry.Entry.{Entry}
use Rattle.b2_catalog.specs.Catalogue.{catalogue}
use Rattle.b2_catalog.specs.Ways.{slot_found}
use Rattle.b2_catalog.proofs.DataSectors.{in-image}
use Rattle.b2_record.specs.Writing.{record_of}
use Rattle.b2_datafile.specs.Files.{IsFront, IsWhole, new_opened, with_end}
use Rattle.b2_datafile.specs.Slots.{file_of, write_refusal}
use Rattle.b2_datafile.proofs.Fronts.{fills-same}
use Rattle.b2_progfile.specs.Saving.{lines_within}
use Rattle.b2_access.specs.declared.accesses.Access.{Access}
use Rattle.b2_access.specs.declared.accesses.Access.TheVariants as access
use Rattle.b2_access.specs.declared.accesses.Answer.{Answer}
use Rattle.b2_access.specs.declared.accesses.Answer.TheVariants as answer
use Rattle.b2_access.specs.declared.objects.Object.TheVariants as object
use Rattle.b2_access.specs.AccessRows.{becomes, changes_image, moves, moves_from, moves_to, no_file, row, saves, saves_in, saves_text}
use Rattle.b2_access.specs.Contents.{content_same}
use Rattle.b2_access.specs.Disks.{Made}
use Rattle.b2_access.specs.Holding.{image_changed}
use Rattle.b2_access.specs.Serving.{performs, unless_stopped}
use Rattle.b2_access.specs.Sharing.{Gives}
use Rattle.b2_access.specs.Stopping.{stop}
use Rattle.b2_access.specs.Store.{StoreState, content, put}
use Rattle.b2_access.specs.Touching.{IsLegal}
use Rattle.b2_access.proofs.Held.{other_images_stay}
use Rattle.b2_store.specs.DiskWork.{disks, scratched_image, serves}
use Rattle.b2_store.specs.Files.{AreGood, HasFile, IsAbout, OtherFilesStay, OtherRecordsStay, StaysAs}
use Rattle.b2_store.specs.FileWork.{block_saved, file_ended, file_moved, new_file, raw_ended, raw_saved, record_saved, text_saved}
use Rattle.b2_store.proofs.Answered.{IsFileOf, as-made-is, end-told, file-parts, ok-same, save-told}
use Rattle.b2_store.proofs.Kept.{Keeps, end-keeps, put-keeps, scratch-keeps}
use Rattle.b2_store.proofs.Made.{MadeOf, file-keeps, name-kept, new-data, program-keeps}
use Rattle.b2_store.proofs.Records.{allowed-room, ends-at, record-long}
use Rattle.b2_store.proofs.SectorsKept.{NoFile, block-keeps, mark-keeps, raw-keeps}

pub same-bytes : (a b : List ℕ) → (a ≡ b) ⊎ (a ≡ b → ⊥)
same-bytes a b = by (bytes_eq a b) refl
  where
    by : (t : Bool) → bytes_eq a b ≡ t → (a ≡ b) ⊎ (a ≡ b → ⊥)
    by true is = inl ((bytes_eq-Decides a b).0 is)
    by false is = inr (λ same. true≢false (sym ((bytes_eq-Decides a b).1 same) ∙ is))

same-some : (a b : List ℕ) → Some a ≡ Some b → a ≡ b
same-some a b h = cc

-- ---- what a change leaves of an image's files

pub scratched-keeps : (image : List ℕ) → IsGood image → (name new : List ℕ) (o : Option ℕ) → slot_found image name ≡ o → scratched_image image o ≡ Ok new → Keeps image new (λ q. name ≡ q)
scratched-keeps image good name new None is h = cc
scratched-keeps image good name new (Some k) is h = subst (λ (q : List ℕ). Keeps image q (λ q. name ≡ q)) (ok-same _ _ h) (scratch-keeps image good name k is)

-- a slot's file has its name
slot-named : (image : List ℕ) (slot : Slot) (e : Entry) → IsFileOf image slot e → e.name ≡ slot.name
slot-named image slot e is = name-kept image slot.name e is.file

file-there : (image : List ℕ) (slot : Slot) (e : Entry) (is : IsFileOf image slot e) → get (catalogue image) e.name ≡ Some e
file-there image slot e is = ap (get (catalogue image)) (slot-named image slot e is) ∙ is.file

file-some : (image : List ℕ) (slot : Slot) (n : ℕ) (o : Option Entry) → file_of image slot ≡ o → write_refusal o slot.pos n ≡ None → (e : Entry) × (file_of image slot ≡ Some e)
file-some image slot n None is h = cc
file-some image slot n (Some e) is h = (e, is)

pub saved-keeps : (image : List ℕ) (slot : Slot) (values : List Value) (m : Made ℕ) → IsGood image → IsLegal (access.DataSave slot values) → record_saved slot values image ≡ Ok m → Keeps image m.image (λ q. slot.name ≡ q)
saved-keeps image slot values m good legal h =
    let t = save-told slot values image m h in
    let count = length (record_of values) in
    let f = file-some image slot count (file_of image slot) refl t.0 in
    let is = file-parts image slot f.0 f.1 in
    let start = is.start in
    let low = legal.1 in
    let room = (allowed-room f.0 slot.pos count (ap (λ (o : Option Entry). write_refusal o slot.pos count) (sym f.1) ∙ t.0)).0 in
    subst (λ (q : List ℕ). Keeps image q (λ q. slot.name ≡ q)) (sym (ap (λ (x : Made ℕ). x.image) t.1))
    (subst (λ (n : List ℕ). Keeps image (put_from image slot.pos (record_of values)) (λ q. n ≡ q)) (slot-named image slot f.0 is)
    (put-keeps image f.0 slot.pos (record_of values) good (file-there image slot f.0 is) (record-long values legal.0) (omega (arith, start, low)) room))

pub ended-keeps : (image : List ℕ) (slot : Slot) (m : Made ℕ) → IsGood image → slot.start ≤ slot.pos → file_ended slot image ≡ Ok m → Keeps image m.image (λ q. slot.name ≡ q)
ended-keeps image slot m good low h =
    let t = end-told slot image (file_of image slot) m h in
    let is = file-parts image slot t.0 t.1 in
    let start = is.start in
    let at = ends-at image slot t.0 good (file-there image slot t.0 is) (omega (arith, start, low)) t.2 in
    subst (λ (q : List ℕ). Keeps image q (λ q. slot.name ≡ q)) (sym (ap (λ (x : Made ℕ). x.image) t.3))
    (subst (λ (n : List ℕ). Keeps image (with_end image t.0 slot.pos) (λ q. n ≡ q)) (slot-named image slot t.0 is) (end-keeps image t.0 slot.pos at))

-- ---- on the platter of a store

module _ (s : StoreState) (addr image : List ℕ) (e : Entry) (there : content s (object.Platter addr) ≡ Some image) (good : IsGood image) (file : get (catalogue image) e.name ≡ Some e) where
  -- the file is on the platter still, as it was
  abbrev Left : StoreState → Type 0
  Left t = (new : List ℕ) × (content t (object.Platter addr) ≡ Some new) × IsGood new × StaysAs image new e

  as-before : (t : StoreState) → content t (object.Platter addr) ≡ content s (object.Platter addr) → Left t
  as-before t same = (image, same ∙ there, good, record { file = file; sectors = λ n low high. refl })

  unless-left : (o : Option Answer) (g : Gives StoreState) → Left g.after → Left (unless_stopped o g s).after
  unless-left None g h = h
  unless-left (Some x) g h = as-before s refl

  -- the platter of an address that is this one
  module _ (d : List ℕ) (is : d ≡ addr) where
    there-at : content s (object.Platter d) ≡ Some image
    there-at = subst (λ (x : List ℕ). content s (object.Platter x) ≡ Some image) (sym is) there

    put-at : (t : StoreState) (new : List ℕ) (named : List ℕ → Type 0) → content t (object.Platter d) ≡ Some new → Keeps image new named → (named e.name → ⊥) → Left t
    put-at t new named now k other = (new, subst (λ (x : List ℕ). content t (object.Platter x) ≡ Some new) is now, k.good, k.others e file other)

    after-put : (new : List ℕ) → content (put (object.Platter d) new s) (object.Platter d) ≡ Some new
    after-put new = content_same (object.Platter d) new s ∙ ap (option_map (λ _. new)) there-at

    module _ (named : List ℕ → Type 0) (other : named e.name → ⊥) where
      becomes-left : {New : Type 0} (image_of : New → List ℕ) (says : New → Answer) (r : Result New ℕ) → ((n : New) → r ≡ Ok n → Keeps image (image_of n) named) → Left (performs (becomes d image_of says r) s).after
      becomes-left image_of says (Ok n) each = put-at (put (object.Platter d) (image_of n) s) (image_of n) named (after-put (image_of n)) (each n refl) other
      becomes-left image_of says (Err code) each = as-before s refl

      change-left : {New : Type 0} (unlisted : Answer) (image_of : New → List ℕ) (says : New → Answer) (made : List ℕ → Result New ℕ) → ((n : New) → made image ≡ Ok n → Keeps image (image_of n) named)
          → Left (performs (changes_image d unlisted image_of says made (content s (object.Platter d))) s).after
      change-left unlisted image_of says made each =
          subst (λ (o : Option (List ℕ)). Left (performs (changes_image d unlisted image_of says made o) s).after) (sym there-at) (becomes-left image_of says (made image) each)

      -- a program is saved
      module _ (who : ℕ) where
        saves-left : (r : Result (List ℕ) ℕ) → ((n : List ℕ) → r ≡ Ok n → Keeps image n named) → Left (performs (saves who d r) s).after
        saves-left (Ok n) each = put-at (put (object.Platter d) n s) n named (after-put n) (each n refl) other
        saves-left (Err code) each = as-before s refl

        text-left : (made : TextState → List ℕ → Result (List ℕ) ℕ) → ((t : TextState) (n : List ℕ) → made t image ≡ Ok n → Keeps image n named) → (o : Option TextState) → Left (performs (saves_text who d made image o) s).after
        text-left made each None = as-before s refl
        text-left made each (Some t) = saves-left (made t image) (each t)

        save-left : (made : TextState → List ℕ → Result (List ℕ) ℕ) → ((t : TextState) (n : List ℕ) → made t image ≡ Ok n → Keeps image n named) → Left (performs (saves_in who d made (content s (object.Platter d))) s).after
        save-left made each =
            subst (λ (o : Option (List ℕ)). Left (performs (saves_in who d made o) s).after) (sym there-at) (text-left made each (content s (object.Text who)))

      -- a file is moved here
      module _ (from : List ℕ) where
        moves-left : (r : Result (List ℕ) ℕ) → ((n : List ℕ) → r ≡ Ok n → Keeps image n named) → Left (performs (moves from d r) s).after
        moves-left (Ok n) each = put-at (put (object.Platter d) n s) n named (after-put n) (each n refl) other
        moves-left (Err code) each = as-before s refl

        move-left : (made : List ℕ → List ℕ → Result (List ℕ) ℕ) → ((source n : List ℕ) → content s (object.Platter from) ≡ Some source → made source image ≡ Ok n → Keeps image n named)
            → (o : Option (List ℕ)) → content s (object.Platter from) ≡ o → Left (performs (moves_from from d made o) s).after
        move-left made each None from_is = as-before s refl
        move-left made each (Some source) from_is =
            subst (λ (o : Option (List ℕ)). Left (performs (moves_to from d made source o) s).after) (sym there-at) (moves-left (made source image) (λ n is_made. each source n from_is is_made))

  elsewhere : (who : ℕ) (a : Access) (d : List ℕ) → image_changed a ≡ Some d → (d ≡ addr → ⊥) → Left (serves s who a).after
  elsewhere who a d changed apart = as-before (serves s who a).after (other_images_stay disks who addr a s (λ is. apart (same-some d addr (sym changed ∙ is))))

  left : (who : ℕ) (a : Access) → IsLegal a → AreGood s → (IsAbout addr e.name a → ⊥) → Left (serves s who a).after
  left who (access.Scratch d name) legal all about =
      let a = access.Scratch d name in
      elim (same-bytes d addr) as (λ _. Left (serves s who a).after) [
        | inl is ↦ unless-left (stop who (row a).reach s) _ (change-left d is (λ q. name ≡ q) (λ same. about (is, same)) answer.Done (λ i. i) (λ i. answer.Done) (disks.scratch name) (λ n made. scratched-keeps image good name n (slot_found image name) refl made))
        | inr apart ↦ elsewhere who a d refl apart
      ]
  left who (access.Format d index end) legal all about = elsewhere who (access.Format d index end) d refl about
  left who (access.DataNew d old sectors name) legal all about =
      let a = access.DataNew d old sectors name in
      elim (same-bytes d addr) as (λ _. Left (serves s who a).after) [
        | inl is ↦ unless-left (stop who (row a).reach s) _
            (change-left d is (MadeOf old name) (λ same. about (is, same)) (answer.Opened (no_file d name)) (λ m. m.image) (λ m. answer.Opened m.told) (new_file d old sectors name)
            (λ m made. (new-data image d old sectors name m.image m.told good legal (as-made-is (new_opened image d old sectors name) m made)).keeps))
        | inr apart ↦ elsewhere who a d refl apart
      ]
  left who (access.DataSave slot values) legal all about =
      let a = access.DataSave slot values in
      elim (same-bytes slot.addr addr) as (λ _. Left (serves s who a).after) [
        | inl is ↦ unless-left (stop who (row a).reach s) _
            (change-left slot.addr is (λ q. slot.name ≡ q) (λ same. about (is, same)) (answer.Moved slot.pos) (λ m. m.image) (λ m. answer.Moved m.told) (record_saved slot values)
            (λ m made. saved-keeps image slot values m good legal made))
        | inr apart ↦ elsewhere who a slot.addr refl apart
      ]
  left who (access.DataEnd slot) legal all about =
      let a = access.DataEnd slot in
      elim (same-bytes slot.addr addr) as (λ _. Left (serves s who a).after) [
        | inl is ↦ unless-left (stop who (row a).reach s) _
            (change-left slot.addr is (λ q. slot.name ≡ q) (λ same. about (is, same)) (answer.Moved slot.pos) (λ m. m.image) (λ m. answer.Moved m.told) (file_ended slot)
            (λ m made. ended-keeps image slot m good legal made))
        | inr apart ↦ elsewhere who a slot.addr refl apart
      ]
  left who (access.SaveProgram d old name from to) legal all about =
      let a = access.SaveProgram d old name from to in
      elim (same-bytes d addr) as (λ _. Left (serves s who a).after) [
        | inl is ↦ unless-left (stop who (row a).reach s) _
            (save-left d is (MadeOf old name) (λ same. about (is, same)) who (text_saved old name from to) (λ t n made. program-keeps image old name (lines_within from to t.lines) n good legal made))
        | inr apart ↦ elsewhere who a d refl apart
      ]
  left who (access.RawSave d at values) legal all about =
      let a = access.RawSave d at values in
      elim (same-bytes d addr) as (λ _. Left (serves s who a).after) [
        | inl is ↦ unless-left (stop who (row a).reach s) _
            (change-left d is NoFile (λ never. never) (answer.Moved at) (λ m. m.image) (λ m. answer.Moved m.told) (raw_saved at values) (λ m made. raw-keeps image at values m good legal made))
        | inr apart ↦ elsewhere who a d refl apart
      ]
  left who (access.RawEnd d at) legal all about =
      let a = access.RawEnd d at in
      elim (same-bytes d addr) as (λ _. Left (serves s who a).after) [
        | inl is ↦ unless-left (stop who (row a).reach s) _
            (change-left d is NoFile (λ never. never) (answer.Moved at) (λ m. m.image) (λ m. answer.Moved m.told) (raw_ended at) (λ m made. mark-keeps image at m good made))
        | inr apart ↦ elsewhere who a d refl apart
      ]
  left who (access.BlockSave d at bytes) legal all about =
      let a = access.BlockSave d at bytes in
      elim (same-bytes d addr) as (λ _. Left (serves s who a).after) [
        | inl is ↦ unless-left (stop who (row a).reach s) _
            (change-left d is NoFile (λ never. never) (answer.Moved at) (λ m. m.image) (λ m. answer.Moved m.told) (block_saved at bytes) (λ m made. block-keeps image at bytes m good legal made))
        | inr apart ↦ elsewhere who a d refl apart
      ]
  left who (access.MovePlatter from to) legal all about = elsewhere who (access.MovePlatter from to) to refl about
  left who (access.MoveFile from name to) legal all about =
      let a = access.MoveFile from name to in
      elim (same-bytes to addr) as (λ _. Left (serves s who a).after) [
        | inl is ↦ unless-left (stop who (row a).reach s) _
            (move-left to is (λ q. name ≡ q) (λ same. about (is, same)) from (file_moved name) (λ source n listed made. file-keeps source image name n (all from source listed) good made) (content s (object.Platter from)) refl)
        | inr apart ↦ elsewhere who a to refl apart
      ]
  left who a legal all about = as-before (serves s who a).after (other_images_stay disks who addr a s (λ is. let never : None ≡ Some addr = is in cc))

pub other-files : OtherFilesStay
other-files who a s addr image e legal all there file about = left s addr image e there (all addr image there) file who a legal all about

-- ---- and its records

front-left : (image new : List ℕ) (e : Entry) (pos : ℕ) (records : List (List Value)) → pos ≤ e.end + 1 → StaysAs image new e → IsFront image e pos records → IsFront new e pos records
front-left image new e pos records most k front = fills-same image new e.start pos records (λ n low high. k.sectors n low (omega (arith, high, most))) front

file-left : (s t : StoreState) (addr image new : List ℕ) (e : Entry) → HasFile s addr e image → content t (object.Platter addr) ≡ Some new → IsGood new → StaysAs image new e → HasFile t addr e new
file-left s t addr image new e file now good k = record { there = now; good = good; file = k.file; live = file.live; of_data = file.of_data }

whole-left : (image new : List ℕ) (e : Entry) (records : List (List Value)) → IsGood image → get (catalogue image) e.name ≡ Some e → StaysAs image new e → IsWhole image e records → IsWhole new e records
whole-left image new e records good file k w =
    let inside = in-image image e.name e good file in
    let used = inside.used in
    let few = inside.few in
    let order = inside.order in
    record {
      front = front-left image new e (e.start + e.used - 1) records (omega (arith, used, few, order)) k w.front;
      mark = k.sectors (e.start + e.used - 1) (omega (arith, used)) (omega (arith, used, few, order)) ∙ w.mark;
    }

pub other-records : OtherRecordsStay
other-records who a s addr e records legal all about = (
  (λ pos most h.
      let file = h.1 in
      let l = left s addr h.0 e file.there file.good file.file who a legal all about in
      (l.0, file-left s (serves s who a).after addr h.0 l.0 e file l.1 l.2 l.3, front-left h.0 l.0 e pos records most l.3 h.2)),
  (λ h.
      let file = h.1 in
      let l = left s addr h.0 e file.there file.good file.file who a legal all about in
      (l.0, file-left s (serves s who a).after addr h.0 l.0 e file l.1 l.2 l.3, whole-left h.0 l.0 e records file.good file.file l.3 h.2)),
)
