-- What is loaded, and where a place goes, as functions say it.
use Rattle.std.proofs.Common.{◌≡◌, ℕ, zero, suc, ◌+◌, ◌-◌, ◌<◌, ◌≤◌, ◌==◌, ◌&&◌, Bool, true, false, nat_le, min, if◌then◌else◌, List, length, take, Option, Some, None, Result, Ok, Err, IfOk, IfErr, slice_index, refl, sym, ap, ap₂, ◌∙◌, subst, arith, le-leb, le-ltb, lt-ltb, inl, inr}
use Rattle.std.proofs.lemmas.Bool.{and_parts, eq-eqb, eqb-true, false_from_ne_true, leb-true, or_from, or_left, or_right}
use Rattle.std.proofs.lemmas.Slice.Eq.{bytes_eq-Decides}
use Rattle.b2_base.specs.declared.codes.Fault.{Fault}
use Rattle.b2_base.specs.declared.codes.Fault.TheVariants as fault
use Rattle.b2_base.specs.declared.codes.TheConstants.{D80_NOT_OPEN, D88_FORMAT, X70_TOO_LITTLE, X74_OTHER_KIND}
use Rattle.b2_base.specs.declared.files.Slot.{Slot}
use Rattle.b2_base.specs.declared.files.By.{By}
use Rattle.b2_base.specs.declared.files.By.TheVariants as by
use Rattle.b2_catalog.specs.declared.entry.Entry.{Entry}
use Rattle.b2_catalog.specs.Results.{FailsBy}
use Rattle.b2_dec.specs.declared.values.Kind.{Kind}
use Rattle.b2_dec.specs.declared.values.Value.{Value}
use Rattle.b2_platter.specs.Image.{sector, sectors_at}
use Rattle.b2_platter.specs.Reading.{Unspelled}
use Rattle.b2_record.specs.Records.{IsNoRecord, Spells}
use Rattle.b2_record.specs.Reading.{record_at}
use Rattle.b2_record.proofs.Fitting.{all-fit, other-kind, too-few}
use Rattle.b2_record.proofs.ReadBack.{at-read, none-read, read-at}
use Rattle.b2_datafile.specs.Files.{IsEndOfRecords, ends_records}
use Rattle.b2_record.specs.EndSector.{end_mark}
use Rattle.b2_record.specs.Asking.{agree, first_asked}
use Rattle.b2_datafile.specs.Slots.{file_of}
use Rattle.b2_datafile.specs.Loading.{IsRecordAt, LoadFails, LoadsRecord, RecordFails, loaded_from, values_loaded}
use Rattle.b2_datafile.specs.Moving.{Ahead, Behind, IsNoRecordBefore, IsRecordBefore, NoneAhead, NoneBehind, ending_before, moved_in, of_length, over, place_ahead, place_behind, place_moved, record_before}
use Rattle.b2_datafile.proofs.SkippedRecords.{before-number, before-some}

-- ---- where the records end

pub ends-yes : (image : List ℕ) (e : Entry) (pos : ℕ) → IsEndOfRecords image e pos → ends_records image e pos ≡ true
ends-yes image e pos (inl h) = or_left _ _ (le-leb e.end pos h)
ends-yes image e pos (inr h) = or_right _ _ ((bytes_eq-Decides (sector image pos) end_mark).1 h)

pub ends-no : (image : List ℕ) (e : Entry) (pos : ℕ) → (IsEndOfRecords image e pos → ⊥) → ends_records image e pos ≡ false
ends-no image e pos h =
    or_from _ _ (false_from_ne_true _ (λ t. h (inl (leb-true e.end pos t)))) (false_from_ne_true _ (λ t. h (inr ((bytes_eq-Decides (sector image pos) end_mark).0 t))))

-- ---- the record at a place of a file

here : (image : List ℕ) (e : Entry) (pos n : ℕ) (values : List Value) → IsRecordAt image e pos values n → record_at image pos (e.end - 1) ≡ Some (values, n)
here image e pos n values r = read-at image pos (e.end - 1) n values (omega (arith, r.within)) r.spelled

-- ---- what is loaded

at-end : (image : List ℕ) (e : Entry) (pos : ℕ) (kinds : List Kind) (file : Option Entry) → file ≡ Some e → IsEndOfRecords image e pos → loaded_from image pos kinds file ≡ Ok None
at-end image e pos kinds file is end =
    ap (loaded_from image pos kinds) is
    ∙ ap (λ (b : Bool). if b then Ok None else first_asked kinds pos (record_at image pos (e.end - 1))) (ends-yes image e pos end)

before-end : (image : List ℕ) (e : Entry) (pos : ℕ) (kinds : List Kind) (file : Option Entry) → file ≡ Some e → (IsEndOfRecords image e pos → ⊥)
    → loaded_from image pos kinds file ≡ first_asked kinds pos (record_at image pos (e.end - 1))
before-end image e pos kinds file is on =
    ap (loaded_from image pos kinds) is
    ∙ ap (λ (b : Bool). if b then Ok None else first_asked kinds pos (record_at image pos (e.end - 1))) (ends-no image e pos on)

record-value : (image : List ℕ) (e : Entry) (pos : ℕ) (kinds : List Kind) (asked : List Value) (next : ℕ) → LoadsRecord image e pos kinds asked next
    → first_asked kinds pos (record_at image pos (e.end - 1)) ≡ Ok (Some (asked, next))
record-value image e pos kinds asked next r =
    ap (first_asked kinds pos) (here image e pos r.n r.values r.there)
    ∙ (all-fit kinds pos r.n r.values r.fit r.enough ∙ ap₂ (λ (vs : List Value) (k : ℕ). Ok (Some (vs, k))) (sym r.first_ones) (sym r.after))

record-fails : (image : List ℕ) (e : Entry) (pos : ℕ) (kinds : List Kind) (code : ℕ) → RecordFails image e pos kinds code → first_asked kinds pos (record_at image pos (e.end - 1)) ≡ Err code
record-fails image e pos kinds code (inl none) = ap (first_asked kinds pos) (none-read image pos (e.end - 1) none.1) ∙ ap Err (sym none.0)
record-fails image e pos kinds code (inr (values, n, there, inl other)) =
    ap (first_asked kinds pos) (here image e pos n values there) ∙ (other-kind kinds pos n values other.1 ∙ ap Err (sym other.0))
record-fails image e pos kinds code (inr (values, n, there, inr few)) =
    ap (first_asked kinds pos) (here image e pos n values there) ∙ (too-few kinds pos n values few.1 few.2 ∙ ap Err (sym few.0))

pub load-code : (image : List ℕ) (slot : Slot) (kinds : List Kind) (code : ℕ) → LoadFails image slot kinds (fault.Code code) → values_loaded image slot kinds ≡ Err code
unfolding values_loaded
load-code image slot kinds code (inl absent) = ap (loaded_from image slot.pos kinds) absent.1 ∙ ap Err (sym absent.0)
load-code image slot kinds code (inr h) = before-end image h.0 slot.pos kinds (file_of image slot) h.1 h.2 ∙ record-fails image h.0 slot.pos kinds code h.3

pub unspelled-load : (image : List ℕ) (slot : Slot) (kinds : List Kind) (e : Entry) → file_of image slot ≡ Some e → (IsEndOfRecords image e slot.pos → ⊥)
    → (f : Fault) → Unspelled (IsNoRecord image slot.pos (e.end - 1)) f → FailsBy (values_loaded image slot kinds) f
unspelled-load image slot kinds e file on (fault.Code code) h = load-code image slot kinds code (inr (e, file, on, inl h))
unspelled-load image slot kinds e file on fault.NoMemory h = tt

pub record-loaded : (image : List ℕ) (slot : Slot) (kinds : List Kind) (e : Entry) (asked : List Value) (next : ℕ) → file_of image slot ≡ Some e → (IsEndOfRecords image e slot.pos → ⊥)
    → LoadsRecord image e slot.pos kinds asked next → values_loaded image slot kinds ≡ Ok (Some (asked, next))
unfolding values_loaded
record-loaded image slot kinds e asked next file on r = before-end image e slot.pos kinds (file_of image slot) file on ∙ record-value image e slot.pos kinds asked next r

pub nothing-loaded : (image : List ℕ) (slot : Slot) (kinds : List Kind) (e : Entry) → file_of image slot ≡ Some e → IsEndOfRecords image e slot.pos → values_loaded image slot kinds ≡ Ok None
unfolding values_loaded
nothing-loaded image slot kinds e file end = at-end image e slot.pos kinds (file_of image slot) file end

-- ---- ahead

pub ahead-value : (image : List ℕ) (e : Entry) (count from to : ℕ) → Ahead image e count from to → place_ahead image e count from ≡ Ok to
ahead-value image e zero from to h = ap Ok h
ahead-value image e (suc count) from to (inl h) = rw (ends-yes image e from h.0) (ap Ok h.1)
ahead-value image e (suc count) from to (inr h) =
    rw (ends-no image e from h.2)
    (ap (λ (o : Option (List Value × ℕ)). over o (λ n. place_ahead image e count (from + n))) (here image e from h.1 h.0 h.3) ∙ ahead-value image e count (from + h.1) to h.4)

pub ahead-none : (image : List ℕ) (e : Entry) (count from : ℕ) → NoneAhead image e count from → place_ahead image e count from ≡ Err D88_FORMAT
ahead-none image e zero from h = absurd h
ahead-none image e (suc count) from (on, inl none) =
    rw (ends-no image e from on) (ap (λ (o : Option (List Value × ℕ)). over o (λ n. place_ahead image e count (from + n))) (none-read image from (e.end - 1) none))
ahead-none image e (suc count) from (on, inr (values, n, there, rest)) =
    rw (ends-no image e from on)
    (ap (λ (o : Option (List Value × ℕ)). over o (λ n. place_ahead image e count (from + n))) (here image e from n values there) ∙ ahead-none image e count (from + n) rest)

-- ---- behind

ending : (image : List ℕ) (e : Entry) (pos n : ℕ) (values : List Value) → IsRecordBefore image e pos values n → ending_before image e pos n ≡ Some (values, n)
ending image e pos n values r =
    let some = before-some image e pos n values r in
    let there = read-at image (pos - n) (pos - 1) n values (omega (arith, some, r.within)) r.spelled in
    rw (le-leb 1 n some, le-leb (e.start + n) pos r.within)
    (ap (of_length n) there ∙ ap (λ (b : Bool). if b then Some (values, n) else None) (eq-eqb n n refl))

pub before-value : (image : List ℕ) (e : Entry) (pos n : ℕ) (values : List Value) → IsRecordBefore image e pos values n → record_before image e pos ≡ Some (values, n)
before-value image e pos n values r = ap (ending_before image e pos) (before-number image e pos n values r) ∙ ending image e pos n values r

-- what is found before a place ends there
found-length : (n : ℕ) (read : Option (List Value × ℕ)) (found : List Value × ℕ) → of_length n read ≡ Some found → (read ≡ Some found) × (found.1 ≡ n)
found-length n None found e = cc
found-length n (Some other) found e = by_test (other.1 == n) refl e
  where
    by_test : (b : Bool) → (other.1 == n) ≡ b → (if b then Some other else None) ≡ Some found → (Some other ≡ Some found) × (found.1 ≡ n)
    by_test true is same = let one : other ≡ found = cc in (same, ap (λ (f : List Value × ℕ). f.1) (sym one) ∙ eqb-true other.1 n is)
    by_test false is same = cc

pub found-before : (image : List ℕ) (e : Entry) (pos n : ℕ) (found : List Value × ℕ) → ending_before image e pos n ≡ Some found → IsRecordBefore image e pos found.0 n
found-before image e pos n found same = by_test (nat_le 1 n && nat_le (e.start + n) pos) refl same
  where
    by_test : (b : Bool) → (nat_le 1 n && nat_le (e.start + n) pos) ≡ b → (if b then of_length n (record_at image (pos - n) (pos - 1)) else None) ≡ Some found → IsRecordBefore image e pos found.0 n
    by_test true is same =
        let one = found-length n (record_at image (pos - n) (pos - 1)) found same in
        let there = at-read image (pos - n) (pos - 1) found one.0 in
        record {
          within = leb-true (e.start + n) pos (and_parts _ _ is).1;
          spelled = subst (λ (k : ℕ). Spells found.0 (sectors_at image (pos - n) k)) one.1 there.0;
        }
    by_test false is same = cc

none-before-from : (image : List ℕ) (e : Entry) (pos : ℕ) (o : Option (List Value × ℕ)) → record_before image e pos ≡ o → IsNoRecordBefore image e pos → o ≡ None
none-before-from image e pos None is none = refl
none-before-from image e pos (Some found) is none = absurd (none found.0 (slice_index (sector image (pos - 1)) 1) (found-before image e pos (slice_index (sector image (pos - 1)) 1) found is))

before-none : (image : List ℕ) (e : Entry) (pos : ℕ) → IsNoRecordBefore image e pos → record_before image e pos ≡ None
before-none image e pos none = none-before-from image e pos (record_before image e pos) refl none

inside : (from start : ℕ) → start < from → nat_le from start ≡ false
inside from start h = false_from_ne_true (nat_le from start) (λ t. let low = leb-true from start t in omega (arith, low, h))

pub behind-value : (image : List ℕ) (e : Entry) (count from to : ℕ) → Behind image e count from to → place_behind image e count from ≡ Ok to
behind-value image e zero from to h = ap Ok h
behind-value image e (suc count) from to (inl h) = rw (le-leb from e.start h.0) (ap Ok h.1)
behind-value image e (suc count) from to (inr h) =
    rw (inside from e.start h.2)
    (ap (λ (o : Option (List Value × ℕ)). over o (λ n. place_behind image e count (from - n))) (before-value image e from h.1 h.0 h.3) ∙ behind-value image e count (from - h.1) to h.4)

pub behind-none : (image : List ℕ) (e : Entry) (count from : ℕ) → NoneBehind image e count from → place_behind image e count from ≡ Err D88_FORMAT
behind-none image e zero from h = absurd h
behind-none image e (suc count) from (low, inl none) =
    rw (inside from e.start low) (ap (λ (o : Option (List Value × ℕ)). over o (λ n. place_behind image e count (from - n))) (before-none image e from none))
behind-none image e (suc count) from (low, inr (values, n, there, rest)) =
    rw (inside from e.start low)
    (ap (λ (o : Option (List Value × ℕ)). over o (λ n. place_behind image e count (from - n))) (before-value image e from n values there) ∙ behind-none image e count (from - n) rest)

-- ---- a slot's place

module _ (image : List ℕ) (slot : Slot) (way : By) where
  pub no-file : (code : ℕ) → code ≡ D80_NOT_OPEN → file_of image slot ≡ None → place_moved image slot way ≡ Err code
  unfolding place_moved
  no-file code is none = ap (moved_in image slot.pos way) none ∙ ap Err (sym is)

  module _ (e : Entry) (file : file_of image slot ≡ Some e) where
    pub moved-as : (other : By) → way ≡ other → place_moved image slot way ≡ moved_in image slot.pos other (Some e)
    unfolding place_moved
    moved-as other is = ap (moved_in image slot.pos way) file ∙ ap (λ (w : By). moved_in image slot.pos w (Some e)) is

    pub forward-value : (count from to : ℕ) → way ≡ by.Forward count → from ≡ min slot.pos e.end → Ahead image e count from to → place_moved image slot way ≡ Ok to
    forward-value count from to is place h = moved-as (by.Forward count) is ∙ ahead-value image e count (min slot.pos e.end) to (subst (λ (k : ℕ). Ahead image e count k to) place h)

    pub forward-fails : (count from : ℕ) → way ≡ by.Forward count → from ≡ min slot.pos e.end → (f : Fault) → Unspelled (NoneAhead image e count from) f → FailsBy (place_moved image slot way) f
    forward-fails count from is place (fault.Code code) h =
        moved-as (by.Forward count) is ∙ (ahead-none image e count (min slot.pos e.end) (subst (NoneAhead image e count) place h.1) ∙ ap Err (sym h.0))
    forward-fails count from is place fault.NoMemory h = tt

    pub back-value : (count from to : ℕ) → way ≡ by.Back count → from ≡ min slot.pos e.end → Behind image e count from to → place_moved image slot way ≡ Ok to
    back-value count from to is place h = moved-as (by.Back count) is ∙ behind-value image e count (min slot.pos e.end) to (subst (λ (k : ℕ). Behind image e count k to) place h)

    pub back-fails : (count from : ℕ) → way ≡ by.Back count → from ≡ min slot.pos e.end → (f : Fault) → Unspelled (NoneBehind image e count from) f → FailsBy (place_moved image slot way) f
    back-fails count from is place (fault.Code code) h =
        moved-as (by.Back count) is ∙ (behind-none image e count (min slot.pos e.end) (subst (NoneBehind image e count) place h.1) ∙ ap Err (sym h.0))
    back-fails count from is place fault.NoMemory h = tt

-- ---- whole results

pub ok-as : {X E : Type 0} (r : Result X E) (P Q : X → Type 0) → ((x : X) → P x → Q x) → IfOk r P → IfOk r Q
ok-as (Ok x) P Q more h = more x h
ok-as (Err f) P Q more h = tt

pub err-as : {X E : Type 0} (r : Result X E) (P Q : E → Type 0) → ((f : E) → P f → Q f) → IfErr r P → IfErr r Q
err-as (Ok x) P Q more h = tt
err-as (Err f) P Q more h = more f h
