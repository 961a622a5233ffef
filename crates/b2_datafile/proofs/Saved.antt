-- A record is saved at its place.
use Rattle.std.proofs.Common.{◌≡◌, ℕ, ◌+◌, ◌*◌, ◌<◌, ◌≤◌, ◌⊎◌, refl, List, [], ◌∷◌, ◌++◌, length, sym, subst, ap, ap₂, ◌∙◌, ◌-◌, Some, arith, inl, inr}
use Rattle.b2_dec.specs.declared.values.Value.{Value}
use Rattle.b2_platter.specs.declared.layout.Layout.{Layout}
use Rattle.b2_platter.specs.Layout.{layout_of}
use Rattle.b2_platter.specs.Edits.{put_sector, put_from}
use Rattle.b2_catalog.specs.declared.entry.Entry.{Entry}
use Rattle.b2_record.specs.Records.{Spells}
use Rattle.b2_record.specs.Writing.{record_of}
use Rattle.b2_datafile.specs.Files.{Fills, IsFront, IsWhole, with_end}
use Rattle.b2_datafile.specs.Laws.{SavesAt, EndsAt}
use Rattle.b2_platter.proofs.DataSectors.{sector-kept, sector-put}
use Rattle.b2_platter.proofs.Layouts.{own_good}
use Rattle.b2_platter.proofs.OwnSectors.{layout-kept, own-good}
use Rattle.b2_catalog.proofs.DataSectors.{InImage, catalogue-from, catalogue-kept, get-put, in-image}
use Rattle.b2_catalog.proofs.Using.{used-good, used-files}
use Rattle.b2_record.specs.EndSector.{end_mark}
use Rattle.b2_platter.specs.Checks.{IsGood}
use Rattle.b2_platter.specs.Image.{sector, sectors_at}
use Rattle.b2_platter.proofs.Goodness.{sectors_of_good}
use Rattle.b2_platter.proofs.Puts.{sector_before, sector_after, length-put_sector}
use Rattle.b2_catalog.specs.Catalogue.{Catalogue, catalogue}
use Rattle.b2_catalog.specs.Changes.{control_sector}
use Rattle.std.specs.FinMap.{get, insert}
use Rattle.b2_catalog.proofs.Spelled.{control_long}
use Rattle.b2_platter.proofs.SectorRuns.{PutFrom, put-from}
use Rattle.b2_record.proofs.Whole.{long-record}
use Rattle.b2_datafile.proofs.Fronts.{fills-same, fills-more, fills-le}
use Rattle.b2_datafile.proofs.SkippedRecords.{some-groups}
use Rattle.b2_record.proofs.Unique.{record-length, length-unique, values-unique}
use Rattle.std.proofs.lemmas.Bool.{cases_order}

pub saved : (image : List ℕ) (e : Entry) (pos : ℕ) (values : List Value) → SavesAt image e pos values → PutFrom (layout_of image) image (put_from image pos (record_of values)) pos (record_of values)
saved image e pos values s =
    put-from (layout_of image) image pos (record_of values) s.good (long-record values (record_of values) s.record_is)
    (λ n low high. (in-image image e.name e s.good s.file).own n (omega (arith, low, s.low)) (omega (arith, high, s.high)))

pub saved-good : (image : List ℕ) (e : Entry) (pos : ℕ) (values : List Value) → SavesAt image e pos values → IsGood (put_from image pos (record_of values))
saved-good image e pos values s = own_good (layout_of image) (put_from image pos (record_of values)) (saved image e pos values s).good

pub saved-files : (image : List ℕ) (e : Entry) (pos : ℕ) (values : List Value) → SavesAt image e pos values → catalogue (put_from image pos (record_of values)) ≡ catalogue image
saved-files image e pos values s =
    catalogue-from image pos (record_of values) s.good (long-record values (record_of values) s.record_is)
    (λ n low high. (in-image image e.name e s.good s.file).own n (omega (arith, low, s.low)) (omega (arith, high, s.high)))

pub saved-front : (image : List ℕ) (e : Entry) (pos : ℕ) (values : List Value) (records : List (List Value)) → SavesAt image e pos values → IsFront image e pos records
    → IsFront (put_from image pos (record_of values)) e (pos + length (record_of values)) (records ++ values ∷ [])
saved-front image e pos values records s f =
    let p = saved image e pos values s in
    fills-more (put_from image pos (record_of values)) e.start pos (length (record_of values)) records values
    (fills-same image (put_from image pos (record_of values)) e.start pos records (λ k low high. p.before k high) f)
    (subst (Spells values) (sym p.there) s.record_is)

-- ---- the end

inside-of : (image : List ℕ) (e : Entry) (pos : ℕ) → EndsAt image e pos → InImage image e
inside-of image e pos s = in-image image e.name e s.good s.file

pub with_end-other : (image : List ℕ) (e : Entry) (pos k : ℕ) → EndsAt image e pos → (k ≡ pos → ⊥) → (k ≡ e.end → ⊥) → sector (with_end image e pos) k ≡ sector image k
with_end-other image e pos k s other control =
    let inside = inside-of image e pos s in
    let whole = sectors_of_good (layout_of image) image s.good in
    let own = inside.own pos s.low s.high in
    let room : 256 * pos + 256 ≤ length image = omega (arith, inside.within, s.high, whole) in
    let same = length-put_sector image pos end_mark refl room in
    let control_room : 256 * e.end + 256 ≤ length (put_sector image pos end_mark) = omega (arith, same, whole, inside.within) in
    let first = sector-kept (layout_of image) image s.good pos own end_mark refl k (λ is. other (sym is)) in
    elim (cases_order k e.end) as (λ _. sector (with_end image e pos) k ≡ sector image k) [
      | inl at ↦ absurd (control at)
      | inr unequal ↦ elim unequal as (λ _. sector (with_end image e pos) k ≡ sector image k) [
        | inl less ↦ sector_before (put_sector image pos end_mark) e.end (control_sector (layout_of image) (pos - e.start + 1)) (control_long (layout_of image) (pos - e.start + 1)) control_room k less ∙ first
        | inr more ↦ sector_after (put_sector image pos end_mark) e.end (control_sector (layout_of image) (pos - e.start + 1)) (control_long (layout_of image) (pos - e.start + 1)) control_room k more ∙ first
      ]
    ]

with_end-mark : (image : List ℕ) (e : Entry) (pos : ℕ) → EndsAt image e pos → sector (with_end image e pos) pos ≡ end_mark
with_end-mark image e pos s =
    let inside = inside-of image e pos s in
    let whole = sectors_of_good (layout_of image) image s.good in
    let own = inside.own pos s.low s.high in
    let room : 256 * pos + 256 ≤ length image = omega (arith, inside.within, s.high, whole) in
    let same = length-put_sector image pos end_mark refl room in
    let control_room : 256 * e.end + 256 ≤ length (put_sector image pos end_mark) = omega (arith, same, whole, inside.within) in
    sector_before (put_sector image pos end_mark) e.end (control_sector (layout_of image) (pos - e.start + 1)) (control_long (layout_of image) (pos - e.start + 1)) control_room pos s.high
    ∙ sector-put (layout_of image) image s.good pos own end_mark refl

pub with_end-whole : (image : List ℕ) (e : Entry) (pos : ℕ) (records : List (List Value)) → EndsAt image e pos → IsFront image e pos records → IsWhole (with_end image e pos) (record e { used = pos - e.start + 1 }) records
with_end-whole image e pos records s f =
    let place : e.start + (pos - e.start + 1) - 1 ≡ pos = omega (arith, s.low) in
    let same = fills-same image (with_end image e pos) e.start pos records (λ k low high. with_end-other image e pos k s (λ is. omega (arith, is, high)) (λ is. omega (arith, is, high, s.high))) f in
    record {
      front = subst (λ (p : ℕ). Fills (with_end image e pos) e.start p records) (sym place) same;
      mark = ap (sector (with_end image e pos)) place ∙ with_end-mark image e pos s;
    }

-- the end mark alone: the image is good, and the file is there still
marked-good : (image : List ℕ) (e : Entry) (pos : ℕ) → EndsAt image e pos → IsGood (put_sector image pos end_mark)
marked-good image e pos s = own-good image s.good pos ((inside-of image e pos s).own pos s.low s.high) end_mark refl

marked-files : (image : List ℕ) (e : Entry) (pos : ℕ) → EndsAt image e pos → catalogue (put_sector image pos end_mark) ≡ catalogue image
marked-files image e pos s = catalogue-kept image s.good pos ((inside-of image e pos s).own pos s.low s.high) end_mark refl

marked-there : (image : List ℕ) (e : Entry) (pos : ℕ) → EndsAt image e pos → get (catalogue (put_sector image pos end_mark)) e.name ≡ Some e
marked-there image e pos s = ap (λ (files : Catalogue). get files e.name) (marked-files image e pos s) ∙ s.file

-- the control sector is spelled in the layout of the image before
pub with_end-own : (image : List ℕ) (e : Entry) (pos : ℕ) → EndsAt image e pos
    → put_sector (put_sector image pos end_mark) e.end (control_sector (layout_of (put_sector image pos end_mark)) (pos - e.start + 1)) ≡ with_end image e pos
with_end-own image e pos s =
    ap (λ (l : Layout). put_sector (put_sector image pos end_mark) e.end (control_sector l (pos - e.start + 1))) (layout-kept image s.good pos ((inside-of image e pos s).own pos s.low s.high) end_mark refl)

pub with_end-good : (image : List ℕ) (e : Entry) (pos : ℕ) → EndsAt image e pos → IsGood (with_end image e pos)
with_end-good image e pos s =
    subst (λ (q : List ℕ). IsGood q) (with_end-own image e pos s) (used-good (put_sector image pos end_mark) e (marked-good image e pos s) (marked-there image e pos s) (pos - e.start + 1) (omega arith) (omega (arith, s.low, s.high)))

pub with_end-files : (image : List ℕ) (e : Entry) (pos : ℕ) → EndsAt image e pos → catalogue (with_end image e pos) ≡ insert (catalogue image) e.name (record e { used = pos - e.start + 1 })
with_end-files image e pos s =
    ap catalogue (sym (with_end-own image e pos s))
    ∙ used-files (put_sector image pos end_mark) e (marked-good image e pos s) (marked-there image e pos s) (pos - e.start + 1) (omega arith) (omega (arith, s.low, s.high))
    ∙ ap (λ (files : Catalogue). insert files e.name (record e { used = pos - e.start + 1 })) (marked-files image e pos s)

-- ---- a file with no records: its end mark is in its first sector

new-ends : (image : List ℕ) (e : Entry) → IsGood image → get (catalogue image) e.name ≡ Some e → EndsAt image e e.start
new-ends image e good file = record { good = good; file = file; low = omega arith; high = (in-image image e.name e good file).order }

one-used : (start : ℕ) → start - start + 1 ≡ 1
one-used start = omega arith

pub new-whole : (image : List ℕ) (e : Entry) → IsGood image → get (catalogue image) e.name ≡ Some e → IsWhole (with_end image e e.start) (record e { used = 1 }) []
new-whole image e good file =
    subst (λ (n : ℕ). IsWhole (with_end image e e.start) (record e { used = n }) []) (one-used e.start) (with_end-whole image e e.start [] (new-ends image e good file) refl)

pub new-files : (image : List ℕ) (e : Entry) → IsGood image → get (catalogue image) e.name ≡ Some e → catalogue (with_end image e e.start) ≡ insert (catalogue image) e.name (record e { used = 1 })
new-files image e good file =
    with_end-files image e e.start (new-ends image e good file) ∙ ap (λ (n : ℕ). insert (catalogue image) e.name (record e { used = n })) (one-used e.start)

pub new-there : (image name : List ℕ) (e : Entry) → IsGood image → get (catalogue image) e.name ≡ Some e → e.name ≡ name → get (catalogue (with_end image e e.start)) name ≡ Some (record e { used = 1 })
new-there image name e good file named =
    ap (λ (m : Catalogue). get m name) (new-files image e good file)
    ∙ (ap (get (insert (catalogue image) e.name (record e { used = 1 }))) (sym named) ∙ get-put (catalogue image) e.name (record e { used = 1 }))

pub new-others : (image : List ℕ) (e : Entry) → IsGood image → get (catalogue image) e.name ≡ Some e → (n : ℕ) → (n < e.start) ⊎ (e.end < n) → sector (with_end image e e.start) n ≡ sector image n
new-others image e good file n out =
    let order = (in-image image e.name e good file).order in
    elim out as (λ _. sector (with_end image e e.start) n ≡ sector image n) [
      | inl before ↦ with_end-other image e e.start n (new-ends image e good file) (λ same. omega (arith, before, same)) (λ same. omega (arith, before, same, order))
      | inr after ↦ with_end-other image e e.start n (new-ends image e good file) (λ same. omega (arith, after, same, order)) (λ same. omega (arith, after, same))
    ]

-- ---- one list of records

record-some : (image : List ℕ) (at n : ℕ) (values : List Value) → Spells values (sectors_at image at n) → 1 ≤ n
record-some image at n values p = omega (arith, some-groups p.groups p.split, record-length image at n values p)

pub fills-unique : (image : List ℕ) (at pos : ℕ) (a b : List (List Value)) → Fills image at pos a → Fills image at pos b → a ≡ b
fills-unique image at pos [] [] f g = refl
fills-unique image at pos [] (w ∷ b) f g = absurd (omega (arith, f, record-some image at g.0 w g.1, fills-le image (at + g.0) pos b g.2))
fills-unique image at pos (v ∷ a) [] f g = absurd (omega (arith, g, record-some image at f.0 v f.1, fills-le image (at + f.0) pos a f.2))
fills-unique image at pos (v ∷ a) (w ∷ b) f g =
    let n : f.0 ≡ g.0 = length-unique image at f.0 g.0 v w f.1 g.1 in
    let same : v ≡ w = values-unique image at f.0 g.0 v w f.1 g.1 in
    let rest = fills-unique image (at + f.0) pos a b f.2 (subst (λ (k : ℕ). Fills image (at + k) pos b) (sym n) g.2) in
    ap₂ (λ u us. u ∷ us) same rest

pub front-unique : (image : List ℕ) (e : Entry) (pos : ℕ) (a b : List (List Value)) → IsFront image e pos a → IsFront image e pos b → a ≡ b
front-unique image e pos a b f g = fills-unique image e.start pos a b f g
