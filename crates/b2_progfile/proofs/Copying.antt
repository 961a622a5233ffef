-- An image with a copy of a file of another: it is good, its catalogue has the file besides, and its other sectors stay.
use Rattle.std.proofs.Common.{◌≡◌, ◌≢◌, ℕ, ◌+◌, ◌-◌, ◌*◌, ◌<◌, ◌≤◌, Bool, true, false, cond, List, length, Some, sym, ap, ap₂, subst, ◌∙◌, arith, length-drop}
use Rattle.std.specs.FinMap.{get, insert}
use Rattle.std.proofs.lemmas.Bool.{and_parts}
use Rattle.b2_base.specs.Names.{is_name8}
use Rattle.b2_platter.specs.declared.layout.Layout.{Layout}
use Rattle.b2_platter.specs.Layout.{layout_of, sector_number_at, second_place}
use Rattle.b2_platter.specs.Own.{sectors_of, end_of, next_of}
use Rattle.b2_platter.specs.Slot.{is_free, is_entry, is_spelled, slot_name}
use Rattle.b2_platter.specs.Image.{row, sector, index_of, catalogue_end, next_free, sectors_at}
use Rattle.b2_platter.specs.Checks.{IsGood}
use Rattle.b2_platter.specs.Edits.{put_sector, put_from}
use Rattle.b2_platter.proofs.Goodness.{Parts-of, least_of_good}
use Rattle.b2_platter.proofs.Layouts.{own_good, same_layout, layout_by_row}
use Rattle.b2_platter.proofs.Soundness.{Sound-from_Good}
use Rattle.b2_platter.proofs.Puts.{row_before, sector_after, sector_before}
use Rattle.b2_platter.proofs.Kept.{index-same, next-same}
use Rattle.b2_platter.proofs.Fresh.{HeadSays}
use Rattle.b2_catalog.specs.declared.entry.Entry.{Entry}
use Rattle.b2_catalog.specs.Catalogue.{Catalogue, catalogue}
use Rattle.b2_catalog.specs.Ways.{way_of}
use Rattle.b2_catalog.specs.Changes.{control_sector, entered}
use Rattle.b2_catalog.specs.Calls.{new_entry}
use Rattle.b2_catalog.proofs.DataSectors.{InImage, get-put, in-image}
use Rattle.b2_catalog.proofs.Entering.{catalogue-entered, entered_after, entered_good, entered_head, entered_layout, entered_others, entered_sectors, entered_slot}
use Rattle.b2_catalog.proofs.Looking.{Holds-from}
use Rattle.b2_catalog.proofs.MadeFiles.{Enters, put-twice}
use Rattle.b2_catalog.proofs.Placing.{Placed, Placed-from}
use Rattle.b2_catalog.proofs.RowPuts.{length-row}
use Rattle.b2_catalog.proofs.Scratching.{stands}
use Rattle.b2_catalog.proofs.Using.{used-good, used-files}
use Rattle.b2_catalog.proofs.Spelled.{control_long}
use Rattle.b2_progfile.specs.Saving.{file_filled_with}
use Rattle.b2_progfile.specs.Moving.{IsLiveFile, all_sectors, entry_from, own_sectors, put_copy, with_copy}
use Rattle.b2_progfile.proofs.Copies.{sectors-length, sectors-long}
use Rattle.b2_progfile.proofs.Filling.{all-put, control-room, files-stay, filled-with-there, still-there}
use Rattle.b2_platter.proofs.SectorRuns.{AllLong, PutFrom}

-- ---- names of files

chosen : (b x y : Bool) → b ≡ true → cond b x y ≡ true → x ≡ true
chosen true x y e h = h
chosen false x y e h = cc

pub legal-of : (layout : Layout) (slot : List ℕ) → is_entry slot ≡ true → is_spelled layout slot ≡ true → is_name8 (slot_name slot) ≡ true
unfolding is_spelled
legal-of layout slot e h = (and_parts _ _ (chosen (is_entry slot) _ _ e h)).1

pub eight-of : (slot : List ℕ) → length slot ≡ 16 → length (slot_name slot) ≡ 8
unfolding slot_name
eight-of slot h = (let n = length-drop 8 slot in omega (arith, h, n))

-- ---- maps

end-same : (layout : Layout) (a b : List ℕ) → row b 0 ≡ row a 0 → catalogue_end layout b ≡ catalogue_end layout a
unfolding catalogue_end
end-same layout a b h = ap (sector_number_at layout (second_place layout)) h

not-free : (slot : List ℕ) → is_entry slot ≡ true → is_free slot ≡ false
unfolding is_free is_entry
not-free slot e = grind arith

-- ---- the copy

pub record Copy (from image new : List ℕ) (e : Entry) (k : ℕ) : Type 0 where
  pub good : IsGood new
  pub index : index_of new ≡ index_of image
  pub end : end_of new ≡ end_of image
  pub next : next_of new ≡ next_of image + all_sectors e
  pub files : catalogue new ≡ insert (catalogue image) e.name (entry_from (next_of image) e)
  pub before : (n : ℕ) → index_of image ≤ n → n < next_of image → sector new n ≡ sector image n
  pub after : (n : ℕ) → next_of image + all_sectors e ≤ n → sector new n ≡ sector image n
  pub kept : sectors_at new (next_of image) (e.end - e.start) ≡ own_sectors from e
  pub low : 1 ≤ k
  pub high : k < 16 * index_of image
  pub was : is_free (row image k) ≡ true
  pub now : is_free (row new k) ≡ false
  pub others : (j : ℕ) → 1 ≤ j → j < 16 * index_of image → j ≢ k → row new j ≡ row image j

module _ (from image : List ℕ) (e : Entry) (source : IsGood from) (good : IsGood image) (live : IsLiveFile from e) (n : Enters image e.name (all_sectors e)) where
  inside : InImage from e
  inside = in-image from e.name e source live.there

  legal : is_name8 e.name ≡ true
  legal =
      let w = stands from e.name e live.there in
      let h = Holds-from e.name (row from w.0) w.1.at.held in
      subst (λ (name : List ℕ). is_name8 name ≡ true) h.same (legal-of (layout_of from) (row from w.0) h.entry ((Sound-from_Good (layout_of from) from source).spelled w.0 w.1.at.low w.1.at.high))

  eight : length e.name ≡ 8
  eight =
      let w = stands from e.name e live.there in
      let h = Holds-from e.name (row from w.0) w.1.at.held in
      let parts = Parts-of (layout_of from) from source in
      let room : 16 * w.0 + 16 ≤ length from = omega (arith, w.1.at.high, parts.whole, parts.files, parts.free, parts.rest) in
      subst (λ (name : List ℕ). length name ≡ 8) h.same (eight-of (row from w.0) (length-row from w.0 room))

  placed : Placed image (way_of image e.name) n.k
  placed = Placed-from image good e.name n.k n.place_is

  some : 2 ≤ all_sectors e
  some = let i = inside in omega (arith, i.order)

  abbrev start : ℕ
  start = next_of image

  abbrev new : Entry
  new = new_entry image e.name e.program (all_sectors e)

  abbrev one : List ℕ
  one = entered image n.k e.name e.program (all_sectors e)

  abbrev own : List (List ℕ)
  own = own_sectors from e

  abbrev two : List ℕ
  two = put_from one start own

  abbrev three : List ℕ
  three = file_filled_with one start (start + (e.end - e.start)) own e.used

  good-one : IsGood one
  good-one = entered_good image good e.name legal eight n.k placed n.absent e.program (all_sectors e) some n.room

  head-one : HeadSays (layout_of image) one (index_of image) (sectors_of image) (end_of image) (start + all_sectors e)
  head-one = entered_head image good e.name legal eight n.k placed n.absent e.program (all_sectors e) some n.room

  files-one : catalogue one ≡ insert (catalogue image) e.name new
  files-one = catalogue-entered image good e.name legal eight n.k placed n.absent e.program (all_sectors e) some n.room

  file-one : get (catalogue one) e.name ≡ Some new
  file-one = ap (λ (files : Catalogue). get files e.name) files-one ∙ get-put (catalogue image) e.name new

  last-is : new.end ≡ start + (e.end - e.start)
  last-is = let i = inside in omega (arith, i.order)

  count : length own ≡ e.end - e.start
  count = sectors-length from e.start (e.end - e.start)

  long : AllLong own
  long = let i = inside in sectors-long from e.start (e.end - e.start) source (omega (arith, i.order, i.within))

  room : new.start + length own ≤ new.end
  room = let l = last-is in let c = count in omega (arith, l, c)

  put : PutFrom (layout_of one) one two start own
  put = all-put one new own good-one file-one long room

  files-two : catalogue two ≡ catalogue one
  files-two = files-stay one new own good-one file-one long room

  file-two : get (catalogue two) e.name ≡ Some new
  file-two = still-there one new own good-one file-one long room

  last-room : 256 * new.end + 256 ≤ length two
  last-room = control-room one new own good-one file-one long room

  three-is : three ≡ put_sector two new.end (control_sector (layout_of one) e.used)
  three-is = ap (λ (m : ℕ). put_sector two m (control_sector (layout_of one) e.used)) (sym last-is)

  good-two : IsGood two
  good-two = own_good (layout_of one) two put.good

  layout-two : layout_of two ≡ layout_of one
  layout-two = same_layout one two put.good

  layout-one : layout_of one ≡ layout_of image
  layout-one = entered_layout image good e.name legal eight n.k placed n.absent e.program (all_sectors e) some n.room

  three-own : three ≡ put_sector two new.end (control_sector (layout_of two) e.used)
  three-own = three-is ∙ ap (λ (l : Layout). put_sector two new.end (control_sector l e.used)) (sym layout-two)

  used : IsGood three × (catalogue three ≡ insert (catalogue two) e.name (record new { used = e.used }))
  used =
      let i = inside in
      let few : e.used ≤ new.end - new.start = omega (arith, i.few, last-is) in (
        subst (λ (xs : List ℕ). IsGood xs) (sym three-own) (used-good two new good-two file-two e.used i.used few),
        ap catalogue three-own ∙ used-files two new good-two file-two e.used i.used few,
      )

  index-one : index_of one ≡ index_of image
  index-one = head-one.index

  ordered : index_of image ≤ start
  ordered = (Parts-of (layout_of image) image good).files

  rows : (j : ℕ) → j < 16 * index_of image → row three j ≡ row one j
  rows j h =
      let i = index-one in
      let o = ordered in
      let l = last-is in
      ap (λ (q : List ℕ). row q j) three-is
      ∙ (row_before two new.end (control_sector (layout_of one) e.used) (control_long (layout_of one) e.used) last-room j (omega (arith, h, o, l))
      ∙ put.rows j (omega (arith, h, i)))

  first-row : row three 0 ≡ row one 0
  first-row = let p = placed in rows 0 (omega (arith, p.low, p.high))

  layout-three : layout_of three ≡ layout_of image
  layout-three =
      let one-least = least_of_good (layout_of one) one good-one in
      let three-least = least_of_good (layout_of three) three used.0 in
      layout_by_row one three (omega (arith, one-least)) (omega (arith, three-least)) first-row ∙ layout-one

  entry-is : record new { used = e.used } ≡ entry_from start e
  entry-is = ap₂ (λ (l : Bool) (m : ℕ). record e { live = l; start = start; end = m }) (sym live.live) last-is

  pub copy-made : Copy from image three e n.k
  copy-made =
      let p = placed in
      let o = ordered in
      let l = last-is in
      let i = index-one in record {
        good = used.0;
        index = index-same (layout_of one) one three first-row ∙ i;
        end = ap (λ (l : Layout). catalogue_end l three) layout-three ∙ (end-same (layout_of image) one three first-row ∙ head-one.end);
        next = ap (λ (l : Layout). next_free l three) layout-three ∙ (next-same (layout_of image) one three first-row ∙ head-one.next);
        files = used.1
            ∙ (ap (λ (files : Catalogue). insert files e.name (record new { used = e.used })) (files-two ∙ files-one)
            ∙ (put-twice (catalogue image) e.name new (record new { used = e.used }) ∙ ap (insert (catalogue image) e.name) entry-is));
        before = λ m low high. ap (λ (q : List ℕ). sector q m) three-is
            ∙ (sector_before two new.end (control_sector (layout_of one) e.used) (control_long (layout_of one) e.used) last-room m (omega (arith, high, l))
            ∙ (put.before m high
            ∙ entered_sectors image good e.name legal eight n.k placed n.absent e.program (all_sectors e) some n.room m low (omega (arith, high))));
        after = λ m low. ap (λ (q : List ℕ). sector q m) three-is
            ∙ (sector_after two new.end (control_sector (layout_of one) e.used) (control_long (layout_of one) e.used) last-room m (omega (arith, low, l))
            ∙ (put.after m (omega (arith, low, count))
            ∙ entered_after image good e.name legal eight n.k placed n.absent e.program (all_sectors e) some n.room m low));
        kept = ap (λ (m : ℕ). sectors_at three start m) (sym count) ∙ (ap (λ (q : List ℕ). sectors_at q start (length own)) three-is ∙ filled-with-there one new own good-one file-one long room e.used);
        low = p.low;
        high = p.high;
        was = p.free;
        now = not-free (row three n.k) (ap is_entry (rows n.k p.high) ∙ entered_slot image good e.name legal eight n.k placed n.absent e.program (all_sectors e) some n.room);
        others = λ j low high other. rows j high ∙ entered_others image good e.name legal eight n.k placed n.absent e.program (all_sectors e) some n.room j low high other;
      }

  pub with-copy-is : with_copy from image e ≡ three
  with-copy-is = ap (put_copy from image e) n.place_is

  pub copied : Copy from image (with_copy from image e) e n.k
  copied = subst (λ (q : List ℕ). Copy from image q e n.k) (sym with-copy-is) copy-made
