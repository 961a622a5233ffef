-- Each access leaves every platter sound.
use Rattle.std.proofs.Common.{◌≡◌, ◌⊎◌, ℕ, ◌-◌, ◌<◌, ◌≤◌, Bool, true, false, cond, List, [], ◌∷◌, Option, Some, None, Result, Ok, Err, refl, sym, subst, ◌∙◌, inl, inr, arith}
use Rattle.std.specs.Prelude.{nat_lt, if◌then◌else◌}
use Rattle.std.specs.Option.{option_map}
use Rattle.std.proofs.lemmas.Bool.{and_parts, leb-true, ltb-true}
use Rattle.b2_base.specs.declared.codes.TheConstants.{P34_RANGE}
use Rattle.b2_platter.specs.Layout.{layout_of}
use Rattle.b2_platter.specs.Own.{sectors_of, end_of}
use Rattle.b2_platter.specs.Checks.{IsGood}
use Rattle.b2_platter.specs.Edits.{CanFormat, formatted}
use Rattle.b2_platter.specs.Image.{index_of}
use Rattle.b2_platter.proofs.Fresh.{formatted_good}
use Rattle.b2_platter.proofs.Layouts.{own_good}
use Rattle.b2_platter.proofs.Goodness.{Parts-of}
use Rattle.b2_text.specs.Program.{TextState}
use Rattle.b2_catalog.specs.declared.entry.Entry.{Entry}
use Rattle.b2_catalog.specs.Ways.{slot_found}
use Rattle.b2_catalog.proofs.Formats.{formatted_head}
use Rattle.b2_datafile.specs.Files.{new_opened}
use Rattle.b2_progfile.specs.Moving.{with_copy}
use Rattle.b2_progfile.specs.MovingAll.{emptied, platter_moved, with_copies}
use Rattle.b2_progfile.specs.Saving.{lines_within}
use Rattle.b2_progfile.proofs.LiveFiles.{platter-moves}
use Rattle.b2_progfile.proofs.Refilling.{Ready, ready-copy, ready-first, ready-next}
use Rattle.b2_access.specs.declared.accesses.Access.{Access}
use Rattle.b2_access.specs.declared.accesses.Access.TheVariants as access
use Rattle.b2_access.specs.declared.accesses.Answer.{Answer}
use Rattle.b2_access.specs.declared.accesses.Answer.TheVariants as answer
use Rattle.b2_access.specs.declared.objects.Object.TheVariants as object
use Rattle.b2_access.specs.AccessRows.{becomes, changes_image, moves, moves_from, moves_to, no_file, row, saves, saves_in, saves_text}
use Rattle.b2_access.specs.Contents.{content_other, content_same}
use Rattle.b2_access.specs.Holding.{image_changed}
use Rattle.b2_access.specs.Serving.{performs, unless_stopped}
use Rattle.b2_access.specs.Sharing.{Gives}
use Rattle.b2_access.specs.Stopping.{stop}
use Rattle.b2_access.specs.Store.{StoreState, content, put}
use Rattle.b2_access.specs.Touching.{IsLegal}
use Rattle.b2_access.proofs.Held.{other_images_stay}
use Rattle.b2_store.specs.DiskWork.{can_format, disks, serves, with_index}
use Rattle.b2_store.specs.Files.{AreSound, IsSound, PlattersStaySound}
use Rattle.b2_store.specs.FileWork.{block_saved, file_ended, file_moved, files_moved, new_file, raw_ended, raw_saved, record_saved, text_saved}
use Rattle.b2_store.proofs.Answered.{as-made-is}
use Rattle.b2_store.proofs.Kept.{Keeps}
use Rattle.b2_store.proofs.Made.{file-keeps, new-data, program-keeps}
use Rattle.b2_store.proofs.SectorsKept.{NoFile, block-keeps, mark-keeps, raw-keeps}
use Rattle.b2_store.proofs.Others.{ended-keeps, same-bytes, saved-keeps, scratched-keeps}

-- ---- images

kept-sound : (image new : List ℕ) (named : List ℕ → Type 0) → IsSound image → Keeps image new named → IsSound new
kept-sound image new named sound k =
    let few = sound.1 in
    let same = k.index in
    (k.good, omega (arith, few, same))

-- one that is formatted
ok-is : (a b : List ℕ) → ◌≡◌ {A = Result (List ℕ) ℕ} (Ok a) (Ok b) → a ≡ b
ok-is a b h = cc

can-by : (index end : ℕ) (image : List ℕ) → can_format index end image ≡ true → CanFormat (layout_of image) image index end
can-by index end image can =
    let one = and_parts _ _ can in
    let two = and_parts _ _ one.1 in
    let three = and_parts _ _ two.1 in
    let low : index ≤ end = leb-true _ _ three.0 in
    let high : end < sectors_of image = ltb-true _ _ three.1 in
    record { some = leb-true _ _ one.0; few = leb-true _ _ two.0; order = omega (arith, low); within = omega (arith, high) }

formatted-sound : (image : List ℕ) (index end : ℕ) → IsGood image → CanFormat (layout_of image) image index end → IsSound (formatted (layout_of image) image index end)
formatted-sound image index end good can =
    let says = (formatted_head image index end good can).index in
    let few : index ≤ 255 = can.few in
    (own_good (layout_of image) _ (formatted_good (layout_of image) image index end good can), omega (arith, says, few))

with-index-sound : (index end : ℕ) (image new : List ℕ) → IsSound image → with_index index end image ≡ Ok new → IsSound new
with-index-sound index end image new sound h = by (can_format index end image) refl h
  where
    by : (b : Bool) → can_format index end image ≡ b → (if b then Ok (formatted (layout_of image) image index end) else Err P34_RANGE) ≡ Ok new → IsSound new
    by true is made = subst IsSound (ok-is _ _ made) (formatted-sound image index end sound.0 (can-by index end image is))
    by false is made = cc

-- one to which all files of another are moved
emptied-few : (image : List ℕ) → IsSound image → index_of (emptied image) ≤ 255
emptied-few image sound = by (nat_lt (index_of image) (end_of image)) refl
  where
    by : (b : Bool) → nat_lt (index_of image) (end_of image) ≡ b → index_of (cond b (formatted (layout_of image) image (index_of image) (end_of image - 1)) image) ≤ 255
    by true is =
        let parts = Parts-of (layout_of image) image sound.0 in
        let some = parts.some in
        let rest = parts.rest in
        let room : index_of image < end_of image = ltb-true _ _ is in
        (formatted-sound image (index_of image) (end_of image - 1) sound.0 (record { some = some; few = sound.1; order = omega (arith, room); within = omega (arith, room, rest) })).1
    by false is = sound.1

copied-sound : (from : List ℕ) (source : IsGood from) (image : List ℕ) (files : List Entry) → Ready from image files → index_of image ≤ 255 → IsSound (with_copies from image files)
copied-sound from source image [] r few = (r.good, few)
copied-sound from source image (e ∷ files) r few =
    let same = (ready-copy from source image e files r).1.index in
    copied-sound from source (with_copy from image e) files (ready-next from source image e files r) (omega (arith, few, same))

moved-sound : (from image new : List ℕ) → IsSound from → IsSound image → platter_moved from image ≡ Ok new → IsSound new
moved-sound from image new source sound h =
    let m = platter-moves from image new source.0 sound.0 sound.1 h in
    subst IsSound (sym m.image) (copied-sound from source.0 (emptied image) m.files (ready-first from image m.files sound.0 sound.1 m.are m.allowed) (emptied-few image sound))

-- ---- stores

module _ (s : StoreState) (all : AreSound s) where
  unless-sound : (o : Option Answer) (g : Gives StoreState) → AreSound g.after → AreSound (unless_stopped o g s).after
  unless-sound None g h = h
  unless-sound (Some x) g h = all

  other-sound : (who : ℕ) (a : Access) → image_changed a ≡ None → AreSound (serves s who a).after
  other-sound who a none addr image there = all addr image (sym (other_images_stay disks who addr a s (λ is. let never : None ≡ Some addr = sym none ∙ is in cc)) ∙ there)

  there-is : (new image : List ℕ) (o : Option (List ℕ)) → option_map (λ _. new) o ≡ Some image → new ≡ image
  there-is new image None h = cc
  there-is new image (Some x) h = cc

  put-sound : (d new : List ℕ) → IsSound new → AreSound (put (object.Platter d) new s)
  put-sound d new sound addr image there = by (same-bytes addr d)
    where
      address : object.Platter addr ≡ object.Platter d → addr ≡ d
      address same = cc

      by : (addr ≡ d) ⊎ (addr ≡ d → ⊥) → IsSound image
      by (inl is) =
          let here : content (put (object.Platter d) new s) (object.Platter d) ≡ Some image = subst (λ (x : List ℕ). content (put (object.Platter d) new s) (object.Platter x) ≡ Some image) is there in
          subst IsSound (there-is new image (content s (object.Platter d)) (sym (content_same (object.Platter d) new s) ∙ here)) sound
      by (inr apart) = all addr image (sym (content_other (object.Platter d) (object.Platter addr) new s (λ e. apart (address e))) ∙ there)

  becomes-sound : {New : Type 0} (d : List ℕ) (image_of : New → List ℕ) (says : New → Answer) (r : Result New ℕ) → ((n : New) → r ≡ Ok n → IsSound (image_of n)) → AreSound (performs (becomes d image_of says r) s).after
  becomes-sound d image_of says (Ok n) each = put-sound d (image_of n) (each n refl)
  becomes-sound d image_of says (Err code) each = all

  change-by : {New : Type 0} (d : List ℕ) (unlisted : Answer) (image_of : New → List ℕ) (says : New → Answer) (made : List ℕ → Result New ℕ) → ((image : List ℕ) (n : New) → IsSound image → made image ≡ Ok n → IsSound (image_of n))
      → (o : Option (List ℕ)) → content s (object.Platter d) ≡ o → AreSound (performs (changes_image d unlisted image_of says made o) s).after
  change-by d unlisted image_of says made each None is = all
  change-by d unlisted image_of says made each (Some image) is = becomes-sound d image_of says (made image) (λ n h. each image n (all d image is) h)

  change-sound : {New : Type 0} (d : List ℕ) (unlisted : Answer) (image_of : New → List ℕ) (says : New → Answer) (made : List ℕ → Result New ℕ) → ((image : List ℕ) (n : New) → IsSound image → made image ≡ Ok n → IsSound (image_of n))
      → AreSound (performs (changes_image d unlisted image_of says made (content s (object.Platter d))) s).after
  change-sound d unlisted image_of says made each = change-by d unlisted image_of says made each (content s (object.Platter d)) refl

  -- a program is saved
  module _ (who : ℕ) (d : List ℕ) (made : TextState → List ℕ → Result (List ℕ) ℕ) (each : (t : TextState) (image n : List ℕ) → IsSound image → made t image ≡ Ok n → IsSound n) where
    saves-sound : (r : Result (List ℕ) ℕ) → ((n : List ℕ) → r ≡ Ok n → IsSound n) → AreSound (performs (saves who d r) s).after
    saves-sound (Ok n) sound = put-sound d n (sound n refl)
    saves-sound (Err code) sound = all

    text-sound : (image : List ℕ) → IsSound image → (o : Option TextState) → AreSound (performs (saves_text who d made image o) s).after
    text-sound image sound None = all
    text-sound image sound (Some t) = saves-sound (made t image) (λ n h. each t image n sound h)

    save-by : (o : Option (List ℕ)) → content s (object.Platter d) ≡ o → AreSound (performs (saves_in who d made o) s).after
    save-by None is = all
    save-by (Some image) is = text-sound image (all d image is) (content s (object.Text who))

  -- a file, or all files, are moved to another platter
  module _ (from to : List ℕ) (made : List ℕ → List ℕ → Result (List ℕ) ℕ) (each : (source image n : List ℕ) → IsSound source → IsSound image → made source image ≡ Ok n → IsSound n) where
    moves-sound : (r : Result (List ℕ) ℕ) → ((n : List ℕ) → r ≡ Ok n → IsSound n) → AreSound (performs (moves from to r) s).after
    moves-sound (Ok n) sound = put-sound to n (sound n refl)
    moves-sound (Err code) sound = all

    move-to : (source : List ℕ) → IsSound source → (o : Option (List ℕ)) → content s (object.Platter to) ≡ o → AreSound (performs (moves_to from to made source o) s).after
    move-to source sound None is = all
    move-to source sound (Some image) is = moves-sound (made source image) (λ n h. each source image n sound (all to image is) h)

    move-by : (o : Option (List ℕ)) → content s (object.Platter from) ≡ o → AreSound (performs (moves_from from to made o) s).after
    move-by None is = all
    move-by (Some source) is = move-to source (all from source is) (content s (object.Platter to)) refl

  stay : (who : ℕ) (a : Access) → IsLegal a → AreSound (serves s who a).after
  stay who (access.Scratch d name) legal =
      let a = access.Scratch d name in
      unless-sound (stop who (row a).reach s) _ (change-sound d answer.Done (λ i. i) (λ i. answer.Done) (disks.scratch name)
      (λ image n sound made. kept-sound image n (λ q. name ≡ q) sound (scratched-keeps image sound.0 name n (slot_found image name) refl made)))
  stay who (access.Format d index end) legal =
      let a = access.Format d index end in
      unless-sound (stop who (row a).reach s) _ (change-sound d answer.Done (λ i. i) (λ i. answer.Done) (disks.format index end) (λ image n sound made. with-index-sound index end image n sound made))
  stay who (access.DataNew d old sectors name) legal =
      let a = access.DataNew d old sectors name in
      unless-sound (stop who (row a).reach s) _ (change-sound d (answer.Opened (no_file d name)) (λ m. m.image) (λ m. answer.Opened m.told) (new_file d old sectors name)
      (λ image m sound made. kept-sound image m.image _ sound (new-data image d old sectors name m.image m.told sound.0 legal (as-made-is (new_opened image d old sectors name) m made)).keeps))
  stay who (access.DataSave slot values) legal =
      let a = access.DataSave slot values in
      unless-sound (stop who (row a).reach s) _ (change-sound slot.addr (answer.Moved slot.pos) (λ m. m.image) (λ m. answer.Moved m.told) (record_saved slot values)
      (λ image m sound made. kept-sound image m.image (λ q. slot.name ≡ q) sound (saved-keeps image slot values m sound.0 legal made)))
  stay who (access.DataEnd slot) legal =
      let a = access.DataEnd slot in
      unless-sound (stop who (row a).reach s) _ (change-sound slot.addr (answer.Moved slot.pos) (λ m. m.image) (λ m. answer.Moved m.told) (file_ended slot)
      (λ image m sound made. kept-sound image m.image (λ q. slot.name ≡ q) sound (ended-keeps image slot m sound.0 legal made)))
  stay who (access.SaveProgram d old name from to) legal =
      let a = access.SaveProgram d old name from to in
      unless-sound (stop who (row a).reach s) _ (save-by who d (text_saved old name from to)
      (λ t image n sound made. kept-sound image n _ sound (program-keeps image old name (lines_within from to t.lines) n sound.0 legal made)) (content s (object.Platter d)) refl)
  stay who (access.RawSave d at values) legal =
      let a = access.RawSave d at values in
      unless-sound (stop who (row a).reach s) _ (change-sound d (answer.Moved at) (λ m. m.image) (λ m. answer.Moved m.told) (raw_saved at values)
      (λ image m sound made. kept-sound image m.image NoFile sound (raw-keeps image at values m sound.0 legal made)))
  stay who (access.RawEnd d at) legal =
      let a = access.RawEnd d at in
      unless-sound (stop who (row a).reach s) _ (change-sound d (answer.Moved at) (λ m. m.image) (λ m. answer.Moved m.told) (raw_ended at)
      (λ image m sound made. kept-sound image m.image NoFile sound (mark-keeps image at m sound.0 made)))
  stay who (access.BlockSave d at bytes) legal =
      let a = access.BlockSave d at bytes in
      unless-sound (stop who (row a).reach s) _ (change-sound d (answer.Moved at) (λ m. m.image) (λ m. answer.Moved m.told) (block_saved at bytes)
      (λ image m sound made. kept-sound image m.image NoFile sound (block-keeps image at bytes m sound.0 legal made)))
  stay who (access.MovePlatter from to) legal =
      let a = access.MovePlatter from to in
      unless-sound (stop who (row a).reach s) _ (move-by from to files_moved (λ source image n first second made. moved-sound source image n first second made) (content s (object.Platter from)) refl)
  stay who (access.MoveFile from name to) legal =
      let a = access.MoveFile from name to in
      unless-sound (stop who (row a).reach s) _ (move-by from to (file_moved name)
      (λ source image n first second made. kept-sound image n (λ q. name ≡ q) second (file-keeps source image name n first.0 second.0 made)) (content s (object.Platter from)) refl)
  stay who a legal = other-sound who a refl

pub platters-stay-sound : PlattersStaySound
platters-stay-sound who a s legal all = stay s all who a legal
