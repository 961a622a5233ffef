-- What the functions say, as relations.
use Rattle.std.proofs.Common.{◌≡◌, ℕ, zero, suc, ◌+◌, ◌-◌, ◌<◌, ◌⊎◌, ◌||◌, Bool, true, false, not, nat_le, nat_lt, min, if◌then◌else◌, List, length, take, Option, Some, None, Result, Ok, Err, slice_index, refl, sym, ap, ◌∙◌, subst, arith, inl, inr}
use Rattle.std.proofs.lemmas.Bool.{leb-false, leb-true, ltb-false, ltb-true, or_parts}
use Rattle.std.specs.Str.{bytes_eq}
use Rattle.std.proofs.lemmas.Slice.Eq.{bytes_eq-Decides}
use Rattle.b2_base.specs.declared.codes.Fault.TheVariants as fault
use Rattle.b2_base.specs.declared.codes.TheConstants.{D80_NOT_OPEN, D88_FORMAT, X70_TOO_LITTLE, X74_OTHER_KIND}
use Rattle.b2_base.specs.declared.files.Slot.{Slot}
use Rattle.b2_base.specs.declared.files.By.{By}
use Rattle.b2_base.specs.declared.files.By.TheVariants as by
use Rattle.b2_catalog.specs.declared.entry.Entry.{Entry}
use Rattle.b2_dec.specs.declared.values.Kind.{Kind}
use Rattle.b2_dec.specs.declared.values.Value.{Value}
use Rattle.b2_platter.specs.Image.{sector}
use Rattle.b2_record.specs.Reading.{record_at}
use Rattle.b2_record.proofs.ReadBack.{at-read, read-none}
use Rattle.b2_datafile.specs.Files.{IsEndOfRecords, ends_records}
use Rattle.b2_record.specs.EndSector.{end_mark}
use Rattle.b2_record.specs.Asking.{agree, first_asked}
use Rattle.b2_datafile.specs.Slots.{file_of}
use Rattle.b2_datafile.specs.Loading.{IsRecordAt, LoadFails, Loads, LoadsRecord, RecordFails, loaded_from, values_loaded}
use Rattle.b2_datafile.specs.Moving.{Ahead, Behind, IsNoRecordBefore, IsRecordBefore, Moves, NoMove, NoneAhead, NoneBehind, SkipFails, moved_in, over, place_ahead, place_behind, place_moved, record_before}
use Rattle.b2_datafile.proofs.Functions.{before-value, ends-yes, found-before}

-- ---- where the records end

is-end : (image : List ℕ) (e : Entry) (pos : ℕ) → ends_records image e pos ≡ true → IsEndOfRecords image e pos
is-end image e pos h = by_place (nat_le e.end pos) refl h
  where
    by_place : (b : Bool) → nat_le e.end pos ≡ b → (b || bytes_eq (sector image pos) end_mark) ≡ true → IsEndOfRecords image e pos
    by_place true is same = inl (leb-true e.end pos is)
    by_place false is same = inr ((bytes_eq-Decides (sector image pos) end_mark).0 same)

is-no-end : (image : List ℕ) (e : Entry) (pos : ℕ) → ends_records image e pos ≡ false → IsEndOfRecords image e pos → ⊥
is-no-end image e pos h end = let bad : true ≡ false = sym (ends-yes image e pos end) ∙ h in cc

before-control : (image : List ℕ) (e : Entry) (pos : ℕ) → ends_records image e pos ≡ false → pos < e.end
before-control image e pos h = leb-false e.end pos (or_parts (nat_le e.end pos) (bytes_eq (sector image pos) end_mark) h).0

there : (image : List ℕ) (e : Entry) (pos : ℕ) (read : List Value × ℕ) → ends_records image e pos ≡ false → record_at image pos (e.end - 1) ≡ Some read → IsRecordAt image e pos read.0 read.1
there image e pos read on same =
    let found = at-read image pos (e.end - 1) read same in
    record { spelled = found.0; within = omega (arith, found.1, before-control image e pos on) }

-- ---- what is loaded

module _ (image : List ℕ) (pos : ℕ) (kinds : List Kind) where
  abbrev asked-of : List Value × ℕ → Result (Option (List Value × ℕ)) ℕ
  asked-of read = Ok (Some (take (length kinds) read.0, pos + read.1))

  asked-some : (e : Entry) (r : Option (List Value × ℕ)) (found : List Value × ℕ) → ends_records image e pos ≡ false → record_at image pos (e.end - 1) ≡ r → first_asked kinds pos r ≡ Ok (Some found)
      → LoadsRecord image e pos kinds found.0 found.1
  asked-some e None found on is h = cc
  asked-some e (Some read) found on is h = by_kinds (agree kinds read.0) refl h
    where
      by_count : (b : Bool) → nat_lt (length read.0) (length kinds) ≡ b → agree kinds read.0 ≡ true
          → (if b then Err X70_TOO_LITTLE else asked-of read) ≡ Ok (Some found) → LoadsRecord image e pos kinds found.0 found.1
      by_count true few fit h = cc
      by_count false few fit h =
          let same : (take (length kinds) read.0, pos + read.1) ≡ found = cc in
          record {
            values = read.0;
            n = read.1;
            there = there image e pos read on is;
            after = sym (ap (λ (f : List Value × ℕ). f.1) same);
            fit = fit;
            enough = ltb-false (length read.0) (length kinds) few;
            first_ones = sym (ap (λ (f : List Value × ℕ). f.0) same);
          }

      by_kinds : (b : Bool) → agree kinds read.0 ≡ b
          → (if not b then Err X74_OTHER_KIND else (if nat_lt (length read.0) (length kinds) then Err X70_TOO_LITTLE else asked-of read)) ≡ Ok (Some found)
          → LoadsRecord image e pos kinds found.0 found.1
      by_kinds true fit h = by_count (nat_lt (length read.0) (length kinds)) refl fit h
      by_kinds false fit h = cc

  asked-code : (e : Entry) (r : Option (List Value × ℕ)) (code : ℕ) → ends_records image e pos ≡ false → record_at image pos (e.end - 1) ≡ r → first_asked kinds pos r ≡ Err code → RecordFails image e pos kinds code
  asked-code e None code on is h = let same : D88_FORMAT ≡ code = cc in inl (sym same, read-none image pos (e.end - 1) is)
  asked-code e (Some read) code on is h = inr (read.0, read.1, there image e pos read on is, by_kinds (agree kinds read.0) refl h)
    where
      by_count : (b : Bool) → nat_lt (length read.0) (length kinds) ≡ b → agree kinds read.0 ≡ true
          → (if b then Err X70_TOO_LITTLE else asked-of read) ≡ Err code
          → ((code ≡ X74_OTHER_KIND) × (agree kinds read.0 ≡ false)) ⊎ ((code ≡ X70_TOO_LITTLE) × (agree kinds read.0 ≡ true) × (length read.0 < length kinds))
      by_count true few fit h = let same : X70_TOO_LITTLE ≡ code = cc in inr (sym same, fit, ltb-true (length read.0) (length kinds) few)
      by_count false few fit h = cc

      by_kinds : (b : Bool) → agree kinds read.0 ≡ b
          → (if not b then Err X74_OTHER_KIND else (if nat_lt (length read.0) (length kinds) then Err X70_TOO_LITTLE else asked-of read)) ≡ Err code
          → ((code ≡ X74_OTHER_KIND) × (agree kinds read.0 ≡ false)) ⊎ ((code ≡ X70_TOO_LITTLE) × (agree kinds read.0 ≡ true) × (length read.0 < length kinds))
      by_kinds true fit h = by_count (nat_lt (length read.0) (length kinds)) refl fit h
      by_kinds false fit h = let same : X74_OTHER_KIND ≡ code = cc in inl (sym same, fit)

  loaded-none : (e : Entry) (b : Bool) → ends_records image e pos ≡ b → (if b then Ok None else first_asked kinds pos (record_at image pos (e.end - 1))) ≡ Ok None → (r : Option (List Value × ℕ)) → record_at image pos (e.end - 1) ≡ r → IsEndOfRecords image e pos
  loaded-none e true is h r read = is-end image e pos is
  loaded-none e false is h None read = let bad : first_asked kinds pos None ≡ Ok None = sym (ap (first_asked kinds pos) read) ∙ h in cc
  loaded-none e false is h (Some found) read = never (agree kinds found.0) (nat_lt (length found.0) (length kinds)) (sym (ap (first_asked kinds pos) read) ∙ h)
    where
      never : (a b : Bool) → (if not a then Err X74_OTHER_KIND else (if b then Err X70_TOO_LITTLE else asked-of found)) ≡ Ok None → IsEndOfRecords image e pos
      never true true h = cc
      never true false h = cc
      never false b h = cc

  loaded-some : (e : Entry) (b : Bool) (found : List Value × ℕ) → ends_records image e pos ≡ b → (if b then Ok None else first_asked kinds pos (record_at image pos (e.end - 1))) ≡ Ok (Some found)
      → (IsEndOfRecords image e pos → ⊥) × LoadsRecord image e pos kinds found.0 found.1
  loaded-some e true found is h = cc
  loaded-some e false found is h = (is-no-end image e pos is, asked-some e (record_at image pos (e.end - 1)) found is refl h)

  loaded-code : (e : Entry) (b : Bool) (code : ℕ) → ends_records image e pos ≡ b → (if b then Ok None else first_asked kinds pos (record_at image pos (e.end - 1))) ≡ Err code
      → (IsEndOfRecords image e pos → ⊥) × RecordFails image e pos kinds code
  loaded-code e true code is h = cc
  loaded-code e false code is h = (is-no-end image e pos is, asked-code e (record_at image pos (e.end - 1)) code is refl h)

  file-none : (file : Option Entry) → loaded_from image pos kinds file ≡ Ok None → (e : Entry) × (file ≡ Some e) × IsEndOfRecords image e pos
  file-none None h = cc
  file-none (Some e) h = (e, refl, loaded-none e (ends_records image e pos) refl h (record_at image pos (e.end - 1)) refl)

  file-some : (file : Option Entry) (found : List Value × ℕ) → loaded_from image pos kinds file ≡ Ok (Some found) → (e : Entry) × (file ≡ Some e) × (IsEndOfRecords image e pos → ⊥) × LoadsRecord image e pos kinds found.0 found.1
  file-some None found h = cc
  file-some (Some e) found h = let l = loaded-some e (ends_records image e pos) found refl h in (e, refl, l.0, l.1)

  file-code : (file : Option Entry) (code : ℕ) → loaded_from image pos kinds file ≡ Err code
      → ((code ≡ D80_NOT_OPEN) × (file ≡ None)) ⊎ ((e : Entry) × (file ≡ Some e) × (IsEndOfRecords image e pos → ⊥) × RecordFails image e pos kinds code)
  file-code None code h = let same : D80_NOT_OPEN ≡ code = cc in inl (sym same, refl)
  file-code (Some e) code h = let l = loaded-code e (ends_records image e pos) code refl h in inr (e, refl, l.0, l.1)

pub none-loaded : (image : List ℕ) (slot : Slot) (kinds : List Kind) → values_loaded image slot kinds ≡ Ok None → Loads image slot kinds None
unfolding values_loaded
none-loaded image slot kinds h = file-none image slot.pos kinds (file_of image slot) h

pub some-loaded : (image : List ℕ) (slot : Slot) (kinds : List Kind) (found : List Value × ℕ) → values_loaded image slot kinds ≡ Ok (Some found)
    → (e : Entry) × (file_of image slot ≡ Some e) × (IsEndOfRecords image e slot.pos → ⊥) × LoadsRecord image e slot.pos kinds found.0 found.1
unfolding values_loaded
some-loaded image slot kinds found h = file-some image slot.pos kinds (file_of image slot) found h

pub code-loaded : (image : List ℕ) (slot : Slot) (kinds : List Kind) (code : ℕ) → values_loaded image slot kinds ≡ Err code → LoadFails image slot kinds (fault.Code code)
unfolding values_loaded
code-loaded image slot kinds code h = file-code image slot.pos kinds (file_of image slot) code h

-- ---- where a place goes

-- going on over what was read
over-ok : (r : Option (List Value × ℕ)) (on : ℕ → Result ℕ ℕ) (to : ℕ) → over r on ≡ Ok to → (read : List Value × ℕ) × (r ≡ Some read) × (on read.1 ≡ Ok to)
over-ok None on to h = cc
over-ok (Some read) on to h = (read, refl, h)

over-code : (r : Option (List Value × ℕ)) (on : ℕ → Result ℕ ℕ) (code : ℕ) → over r on ≡ Err code → ((r ≡ None) × (code ≡ D88_FORMAT)) ⊎ ((read : List Value × ℕ) × (r ≡ Some read) × (on read.1 ≡ Err code))
over-code None on code h = let same : D88_FORMAT ≡ code = cc in inl (refl, sym same)
over-code (Some read) on code h = inr (read, refl, h)

chosen-ok : (b : Bool) (pos to : ℕ) (on : Result ℕ ℕ) → (if b then Ok pos else on) ≡ Ok to → ((b ≡ true) × (pos ≡ to)) ⊎ ((b ≡ false) × (on ≡ Ok to))
chosen-ok true pos to on h = let same : pos ≡ to = cc in inl (refl, same)
chosen-ok false pos to on h = inr (refl, h)

chosen-code : (b : Bool) (pos code : ℕ) (on : Result ℕ ℕ) → (if b then Ok pos else on) ≡ Err code → (b ≡ false) × (on ≡ Err code)
chosen-code true pos code on h = cc
chosen-code false pos code on h = (refl, h)

ahead-is : (image : List ℕ) (e : Entry) (count from to : ℕ) → place_ahead image e count from ≡ Ok to → Ahead image e count from to
ahead-is image e zero from to h = cc
ahead-is image e (suc count) from to h =
    elim (chosen-ok (ends_records image e from) from to (over (record_at image from (e.end - 1)) (λ n. place_ahead image e count (from + n))) h) as (λ _. Ahead image e (suc count) from to) [
      | inl end ↦ inl (is-end image e from end.0, end.1)
      | inr on ↦ (
          let read = over-ok (record_at image from (e.end - 1)) (λ n. place_ahead image e count (from + n)) to on.1 in
          inr (read.0.0, read.0.1, is-no-end image e from on.0, there image e from read.0 on.0 read.1, ahead-is image e count (from + read.0.1) to read.2)
          )
    ]

none-ahead-is : (image : List ℕ) (e : Entry) (count from code : ℕ) → place_ahead image e count from ≡ Err code → (code ≡ D88_FORMAT) × NoneAhead image e count from
none-ahead-is image e zero from code h = cc
none-ahead-is image e (suc count) from code h =
    let on = chosen-code (ends_records image e from) from code (over (record_at image from (e.end - 1)) (λ n. place_ahead image e count (from + n))) h in
    elim (over-code (record_at image from (e.end - 1)) (λ n. place_ahead image e count (from + n)) code on.1) as (λ _. (code ≡ D88_FORMAT) × NoneAhead image e (suc count) from) [
      | inl none ↦ (none.1, (is-no-end image e from on.0, inl (read-none image from (e.end - 1) none.0)))
      | inr read ↦ (
          let rest = none-ahead-is image e count (from + read.0.1) code read.2 in
          (rest.0, (is-no-end image e from on.0, inr (read.0.0, read.0.1, there image e from read.0 on.0 read.1, rest.1)))
          )
    ]

-- the record that was read before a place
is-before : (image : List ℕ) (e : Entry) (pos : ℕ) (read : List Value × ℕ) → record_before image e pos ≡ Some read → IsRecordBefore image e pos read.0 read.1
is-before image e pos read h =
    let n = slice_index (sector image (pos - 1)) 1 in
    let found = found-before image e pos n read h in
    let same = sym (before-value image e pos n read.0 found) ∙ h in
    let count : n ≡ read.1 = cc in
    subst (λ (k : ℕ). IsRecordBefore image e pos read.0 k) count found

none-is-before : (image : List ℕ) (e : Entry) (pos : ℕ) → record_before image e pos ≡ None → IsNoRecordBefore image e pos
none-is-before image e pos h values n r = let bad = sym h ∙ before-value image e pos n values r in cc

behind-is : (image : List ℕ) (e : Entry) (count from to : ℕ) → place_behind image e count from ≡ Ok to → Behind image e count from to
behind-is image e zero from to h = cc
behind-is image e (suc count) from to h =
    elim (chosen-ok (nat_le from e.start) from to (over (record_before image e from) (λ n. place_behind image e count (from - n))) h) as (λ _. Behind image e (suc count) from to) [
      | inl first ↦ inl (leb-true from e.start first.0, first.1)
      | inr on ↦ (
          let read = over-ok (record_before image e from) (λ n. place_behind image e count (from - n)) to on.1 in
          inr (read.0.0, read.0.1, leb-false from e.start on.0, is-before image e from read.0 read.1, behind-is image e count (from - read.0.1) to read.2)
          )
    ]

none-behind-is : (image : List ℕ) (e : Entry) (count from code : ℕ) → place_behind image e count from ≡ Err code → (code ≡ D88_FORMAT) × NoneBehind image e count from
none-behind-is image e zero from code h = cc
none-behind-is image e (suc count) from code h =
    let on = chosen-code (nat_le from e.start) from code (over (record_before image e from) (λ n. place_behind image e count (from - n))) h in
    elim (over-code (record_before image e from) (λ n. place_behind image e count (from - n)) code on.1) as (λ _. (code ≡ D88_FORMAT) × NoneBehind image e (suc count) from) [
      | inl none ↦ (none.1, (leb-false from e.start on.0, inl (none-is-before image e from none.0)))
      | inr read ↦ (
          let rest = none-behind-is image e count (from - read.0.1) code read.2 in
          (rest.0, (leb-false from e.start on.0, inr (read.0.0, read.0.1, is-before image e from read.0 read.1, rest.1)))
          )
    ]

goes-in : (image : List ℕ) (e : Entry) (pos : ℕ) (way : By) (to : ℕ) → moved_in image pos way (Some e) ≡ Ok to → Moves image e pos way to
goes-in image e pos (by.Forward count) to h = ahead-is image e count (min pos e.end) to h
goes-in image e pos (by.Back count) to h = behind-is image e count (min pos e.end) to h
goes-in image e pos by.Begin to h = let same : e.start ≡ to = cc in sym same
goes-in image e pos by.End to h = let same : e.start + e.used - 1 ≡ to = cc in sym same

stays-in : (image : List ℕ) (e : Entry) (pos : ℕ) (way : By) (code : ℕ) → moved_in image pos way (Some e) ≡ Err code → (code ≡ D88_FORMAT) × NoMove image e pos way
stays-in image e pos (by.Forward count) code h = none-ahead-is image e count (min pos e.end) code h
stays-in image e pos (by.Back count) code h = none-behind-is image e count (min pos e.end) code h
stays-in image e pos by.Begin code h = cc
stays-in image e pos by.End code h = cc

file-goes : (image : List ℕ) (pos : ℕ) (way : By) (file : Option Entry) (to : ℕ) → moved_in image pos way file ≡ Ok to → (e : Entry) × (file ≡ Some e) × Moves image e pos way to
file-goes image pos way None to h = cc
file-goes image pos way (Some e) to h = (e, refl, goes-in image e pos way to h)

file-stays : (image : List ℕ) (pos : ℕ) (way : By) (file : Option Entry) (code : ℕ) → moved_in image pos way file ≡ Err code
    → ((code ≡ D80_NOT_OPEN) × (file ≡ None)) ⊎ ((e : Entry) × (file ≡ Some e) × (code ≡ D88_FORMAT) × NoMove image e pos way)
file-stays image pos way None code h = let same : D80_NOT_OPEN ≡ code = cc in inl (sym same, refl)
file-stays image pos way (Some e) code h = let s = stays-in image e pos way code h in inr (e, refl, s.0, s.1)

pub place-goes : (image : List ℕ) (slot : Slot) (way : By) (to : ℕ) → place_moved image slot way ≡ Ok to → (e : Entry) × (file_of image slot ≡ Some e) × Moves image e slot.pos way to
unfolding place_moved
place-goes image slot way to h = file-goes image slot.pos way (file_of image slot) to h

pub place-stays : (image : List ℕ) (slot : Slot) (way : By) (code : ℕ) → place_moved image slot way ≡ Err code → SkipFails image slot way (fault.Code code)
unfolding place_moved
place-stays image slot way code h = file-stays image slot.pos way (file_of image slot) code h
