use Rattle.std.proofs.Common.{◌≡◌, ℕ, true, false, not, ◌&&◌, List, Option, Some, arith, ap, ◌∙◌, sym, subst, refl}
use Rattle.std.specs.Prelude.{is_some, is_none}
use Rattle.std.specs.Option.{option_map}
use Rattle.std.specs.Str.{bytes_eq}
use Rattle.std.specs.FinMap.{insert, remove}
use Rattle.b2_platter.specs.Layout.{layout_of}
use Rattle.b2_platter.specs.Own.{first_of, last_of}
use Rattle.b2_platter.specs.Image.{index_of}
use Rattle.b2_platter.specs.Checks.{IsGood}
use Rattle.b2_platter.proofs.Layouts.{own_fits}
use Rattle.b2_catalog.specs.declared.entry.Entry.{Entry}
use Rattle.b2_catalog.specs.Catalogue.{entry_at, catalogue}
use Rattle.b2_catalog.specs.Ways.{slot_found, place}
use Rattle.b2_catalog.specs.Changes.{put_row, file_slot}
use Rattle.b2_catalog.specs.Calls.{old_refusal, reused_place}
use Rattle.b2_catalog.proofs.Looking.{FileSlot-from}
use Rattle.b2_catalog.proofs.Mapping.{get-catalogue}
use Rattle.b2_catalog.proofs.Maps.{get-at}
use Rattle.b2_catalog.proofs.Scratching.{entry_start, entry_end}
use Rattle.b2_catalog.proofs.Refusals.{reuse_present, reuse_later, reuse_full, reuse_room, old_live, old_full, old_taken}
use Rattle.b2_catalog.proofs.Reusing.{Ready-from, gone_good, reused_good, catalogue-reused, reused_made, gone_index-same}
use Rattle.b2_catalog.proofs.renames.reuse.Goals as goal

pub returns-then-is_name_taken-clause-err : goal.returns-then-is_name_taken-clause-err
returns-then-is_name_taken-clause-err c =
    let taken : (not (bytes_eq c.args.old c.args.name) && is_some (slot_found c.args.p.now c.args.name)) ≡ true = cc in
    (reuse_present c.args.p.now c.args.old c.args.name taken ∙ ap Some (sym c.known.ensures), refl)

pub returns-in_default-clause-err : goal.returns-in_default-clause-err
returns-in_default-clause-err c =
    let taken : (not (bytes_eq c.args.old c.args.name) && is_some (slot_found c.args.p.now c.args.name)) ≡ false = cc in (
      reuse_later c.args.p.now c.args.old c.args.name taken
          ∙ ap (λ (o : Option Entry). old_refusal o (not (bytes_eq c.args.old c.args.name) && is_none (place c.args.p.now c.args.name))) (get-catalogue c.args.p.now c.args.old ∙ ap (option_map (entry_at c.args.p.now)) (sym c.in_default.ensures.slot))
          ∙ ap Some (sym c.known-in_default.ensures),
      refl,
    )

pub returns-then-was-clause-err : goal.returns-then-was-clause-err
returns-then-was-clause-err c =
    let k = c.in-Some.k in
    let good = c.is_name_taken.ensures.good in
    let at = c.in-Some.ensures.held in
    let slot : slot_found c.args.p.now c.args.old ≡ Some c.in-Some.k = sym c.in-Some.ensures.slot in
    let taken : (not (bytes_eq c.args.old c.args.name) && is_some (slot_found c.args.p.now c.args.name)) ≡ false = cc in
    let live : (entry_at c.args.p.now c.in-Some.k).live ≡ true = sym (ap (λ (e : Entry). e.live) c.entry_at-was.ensures.value) ∙ c.if-was.true in (
      reuse_later c.args.p.now c.args.old c.args.name taken
          ∙ ap (λ (o : Option Entry). old_refusal o (not (bytes_eq c.args.old c.args.name) && is_none (place c.args.p.now c.args.name))) (get-at c.args.p.now good c.args.old c.in-Some.k at)
          ∙ old_live (entry_at c.args.p.now c.in-Some.k) _ live ∙ ap Some (sym c.known-then-was.ensures),
      refl,
    )

pub returns-in_default-new_place-clause-err : goal.returns-in_default-new_place-clause-err
returns-in_default-new_place-clause-err c =
    let k = c.in-Some.k in
    let good = c.is_name_taken.ensures.good in
    let at = c.in-Some.ensures.held in
    let slot : slot_found c.args.p.now c.args.old ≡ Some c.in-Some.k = sym c.in-Some.ensures.slot in
    let taken : (not (bytes_eq c.args.old c.args.name) && is_some (slot_found c.args.p.now c.args.name)) ≡ false = cc in
    let dead : (entry_at c.args.p.now c.in-Some.k).live ≡ false = sym (ap (λ (e : Entry). e.live) c.entry_at-was.ensures.value) ∙ c.if-was.false in (
      reuse_later c.args.p.now c.args.old c.args.name taken
          ∙ ap (λ (o : Option Entry). old_refusal o (not (bytes_eq c.args.old c.args.name) && is_none (place c.args.p.now c.args.name))) (get-at c.args.p.now good c.args.old c.in-Some.k at)
          ∙ old_full (entry_at c.args.p.now c.in-Some.k) _ dead (reuse_full c.args.p.now c.args.old c.args.name c.in-Some.k slot (sym c.in_default-new_place.ensures)) ∙ ap Some (sym c.known-in_default-new_place.ensures),
      refl,
    )

pub file_slot-slot-requires-clause-start_fits : goal.file_slot-slot-requires-clause-start_fits
file_slot-slot-requires-clause-start_fits c =
    let k = c.in-Some.k in
    let good = c.is_name_taken.ensures.good in
    let at = c.in-Some.ensures.held in
    let slot : slot_found c.args.p.now c.args.old ≡ Some c.in-Some.k = sym c.in-Some.ensures.slot in
    let taken : (not (bytes_eq c.args.old c.args.name) && is_some (slot_found c.args.p.now c.args.name)) ≡ false = cc in
    let goes : reused_place c.args.p.now c.args.old c.args.name ≡ Some c.in-Some-new_place.to = sym c.in-Some-new_place.ensures in
    let start : c.entry_at-was.result.start ≡ first_of c.args.p.now c.in-Some.k = ap (λ (e : Entry). e.start) c.entry_at-was.ensures.value ∙ entry_start c.args.p.now c.in-Some.k in
    let end : c.entry_at-was.result.end ≡ last_of c.args.p.now c.in-Some.k = ap (λ (e : Entry). e.end) c.entry_at-was.ensures.value ∙ entry_end c.args.p.now c.in-Some.k in
    let f = FileSlot-from c.args.p.now c.args.old c.in-Some.k c.is_name_taken.ensures.good c.in-Some.ensures.held in
    rw c.layout.ensures (own_fits c.args.p.now c.is_name_taken.ensures.good _ (omega (arith, start, f.order, f.within)))

pub file_slot-slot-requires-clause-end_fits : goal.file_slot-slot-requires-clause-end_fits
file_slot-slot-requires-clause-end_fits c =
    let k = c.in-Some.k in
    let good = c.is_name_taken.ensures.good in
    let at = c.in-Some.ensures.held in
    let slot : slot_found c.args.p.now c.args.old ≡ Some c.in-Some.k = sym c.in-Some.ensures.slot in
    let taken : (not (bytes_eq c.args.old c.args.name) && is_some (slot_found c.args.p.now c.args.name)) ≡ false = cc in
    let goes : reused_place c.args.p.now c.args.old c.args.name ≡ Some c.in-Some-new_place.to = sym c.in-Some-new_place.ensures in
    let start : c.entry_at-was.result.start ≡ first_of c.args.p.now c.in-Some.k = ap (λ (e : Entry). e.start) c.entry_at-was.ensures.value ∙ entry_start c.args.p.now c.in-Some.k in
    let end : c.entry_at-was.result.end ≡ last_of c.args.p.now c.in-Some.k = ap (λ (e : Entry). e.end) c.entry_at-was.ensures.value ∙ entry_end c.args.p.now c.in-Some.k in
    let f = FileSlot-from c.args.p.now c.args.old c.in-Some.k c.is_name_taken.ensures.good c.in-Some.ensures.held in
    rw c.layout.ensures (own_fits c.args.p.now c.is_name_taken.ensures.good _ (omega (arith, end, f.within)))

pub put_row-requires-clause-good : goal.put_row-requires-clause-good
put_row-requires-clause-good c =
    let k = c.in-Some.k in
    let good = c.is_name_taken.ensures.good in
    let at = c.in-Some.ensures.held in
    let slot : slot_found c.args.p.now c.args.old ≡ Some c.in-Some.k = sym c.in-Some.ensures.slot in
    let taken : (not (bytes_eq c.args.old c.args.name) && is_some (slot_found c.args.p.now c.args.name)) ≡ false = cc in
    let goes : reused_place c.args.p.now c.args.old c.args.name ≡ Some c.in-Some-new_place.to = sym c.in-Some-new_place.ensures in
    let start : c.entry_at-was.result.start ≡ first_of c.args.p.now c.in-Some.k = ap (λ (e : Entry). e.start) c.entry_at-was.ensures.value ∙ entry_start c.args.p.now c.in-Some.k in
    let end : c.entry_at-was.result.end ≡ last_of c.args.p.now c.in-Some.k = ap (λ (e : Entry). e.end) c.entry_at-was.ensures.value ∙ entry_end c.args.p.now c.in-Some.k in
    let ready = Ready-from c.args.p.now c.is_name_taken.ensures.good c.args.old c.args.name c.in-Some.k c.in-Some-new_place.to slot taken goes in
    rw c.gone_slot.ensures (gone_good c.args.p.now c.is_name_taken.ensures.good c.args.old c.in-Some.k c.in-Some.ensures.held c.args.name c.file_slot-slot.ensures.legal c.file_slot-slot.ensures.len ready.alone c.in-Some-new_place.to ready.low ready.high ready.vacant ready.clear c.args.program)

pub put_row-requires-2-clause-within : goal.put_row-requires-2-clause-within
put_row-requires-2-clause-within c =
    let k = c.in-Some.k in
    let good = c.is_name_taken.ensures.good in
    let at = c.in-Some.ensures.held in
    let slot : slot_found c.args.p.now c.args.old ≡ Some c.in-Some.k = sym c.in-Some.ensures.slot in
    let taken : (not (bytes_eq c.args.old c.args.name) && is_some (slot_found c.args.p.now c.args.name)) ≡ false = cc in
    let goes : reused_place c.args.p.now c.args.old c.args.name ≡ Some c.in-Some-new_place.to = sym c.in-Some-new_place.ensures in
    let start : c.entry_at-was.result.start ≡ first_of c.args.p.now c.in-Some.k = ap (λ (e : Entry). e.start) c.entry_at-was.ensures.value ∙ entry_start c.args.p.now c.in-Some.k in
    let end : c.entry_at-was.result.end ≡ last_of c.args.p.now c.in-Some.k = ap (λ (e : Entry). e.end) c.entry_at-was.ensures.value ∙ entry_end c.args.p.now c.in-Some.k in
    let ready = Ready-from c.args.p.now c.is_name_taken.ensures.good c.args.old c.args.name c.in-Some.k c.in-Some-new_place.to slot taken goes in
    let same : index_of c.put_row.new.p ≡ index_of c.args.p.now = ap index_of (c.put_row.ensures ∙ ap (put_row c.args.p.now c.in-Some.k) c.gone_slot.ensures) ∙ gone_index-same c.args.p.now c.is_name_taken.ensures.good c.args.old c.in-Some.k c.in-Some.ensures.held in
    omega (arith, same, ready.high)

pub put_row-requires-2-clause-good : goal.put_row-requires-2-clause-good
put_row-requires-2-clause-good c =
    let new : c.file_slot-slot.result ≡ file_slot (layout_of c.args.p.now) c.args.program c.entry_at-was.result.start c.entry_at-was.result.end c.args.name = rw (← c.layout.ensures) c.file_slot-slot.ensures.value in
    let k = c.in-Some.k in
    let good = c.is_name_taken.ensures.good in
    let at = c.in-Some.ensures.held in
    let slot : slot_found c.args.p.now c.args.old ≡ Some c.in-Some.k = sym c.in-Some.ensures.slot in
    let taken : (not (bytes_eq c.args.old c.args.name) && is_some (slot_found c.args.p.now c.args.name)) ≡ false = cc in
    let goes : reused_place c.args.p.now c.args.old c.args.name ≡ Some c.in-Some-new_place.to = sym c.in-Some-new_place.ensures in
    let start : c.entry_at-was.result.start ≡ first_of c.args.p.now c.in-Some.k = ap (λ (e : Entry). e.start) c.entry_at-was.ensures.value ∙ entry_start c.args.p.now c.in-Some.k in
    let end : c.entry_at-was.result.end ≡ last_of c.args.p.now c.in-Some.k = ap (λ (e : Entry). e.end) c.entry_at-was.ensures.value ∙ entry_end c.args.p.now c.in-Some.k in
    let ready = Ready-from c.args.p.now c.is_name_taken.ensures.good c.args.old c.args.name c.in-Some.k c.in-Some-new_place.to slot taken goes in
    rw c.put_row.ensures (subst (λ (xs : List ℕ). IsGood xs) (sym (reused_made c.args.p.now c.gone_slot.result c.file_slot-slot.result c.args.name c.in-Some.k c.in-Some-new_place.to c.entry_at-was.result.start c.entry_at-was.result.end c.args.program c.gone_slot.ensures new start end)) (reused_good c.args.p.now c.is_name_taken.ensures.good c.args.old c.in-Some.k c.in-Some.ensures.held c.args.name c.file_slot-slot.ensures.legal c.file_slot-slot.ensures.len ready.alone c.in-Some-new_place.to ready.low ready.high ready.vacant ready.clear c.args.program))

pub returns-clause-ok : goal.returns-clause-ok
returns-clause-ok c =
    let k = c.in-Some.k in
    let good = c.is_name_taken.ensures.good in
    let at = c.in-Some.ensures.held in
    let slot : slot_found c.args.p.now c.args.old ≡ Some c.in-Some.k = sym c.in-Some.ensures.slot in
    let taken : (not (bytes_eq c.args.old c.args.name) && is_some (slot_found c.args.p.now c.args.name)) ≡ false = cc in
    let goes : reused_place c.args.p.now c.args.old c.args.name ≡ Some c.in-Some-new_place.to = sym c.in-Some-new_place.ensures in
    let start : c.entry_at-was.result.start ≡ first_of c.args.p.now c.in-Some.k = ap (λ (e : Entry). e.start) c.entry_at-was.ensures.value ∙ entry_start c.args.p.now c.in-Some.k in
    let end : c.entry_at-was.result.end ≡ last_of c.args.p.now c.in-Some.k = ap (λ (e : Entry). e.end) c.entry_at-was.ensures.value ∙ entry_end c.args.p.now c.in-Some.k in
    let dead : (entry_at c.args.p.now c.in-Some.k).live ≡ false = sym (ap (λ (e : Entry). e.live) c.entry_at-was.ensures.value) ∙ c.if-was.false in
    let there = get-at c.args.p.now c.is_name_taken.ensures.good c.args.old c.in-Some.k c.in-Some.ensures.held in (
      reuse_later c.args.p.now c.args.old c.args.name taken
          ∙ ap (λ (o : Option Entry). old_refusal o (not (bytes_eq c.args.old c.args.name) && is_none (place c.args.p.now c.args.name))) there
          ∙ old_taken (entry_at c.args.p.now c.in-Some.k) _ dead (reuse_room c.args.p.now c.args.old c.args.name c.in-Some-new_place.to goes),
      rw (there, ← c.entry_at-was.ensures.value) refl,
    )

pub returns-clause-catalogue : goal.returns-clause-catalogue
returns-clause-catalogue c =
    let new : c.file_slot-slot.result ≡ file_slot (layout_of c.args.p.now) c.args.program c.entry_at-was.result.start c.entry_at-was.result.end c.args.name = rw (← c.layout.ensures) c.file_slot-slot.ensures.value in
    let k = c.in-Some.k in
    let good = c.is_name_taken.ensures.good in
    let at = c.in-Some.ensures.held in
    let slot : slot_found c.args.p.now c.args.old ≡ Some c.in-Some.k = sym c.in-Some.ensures.slot in
    let taken : (not (bytes_eq c.args.old c.args.name) && is_some (slot_found c.args.p.now c.args.name)) ≡ false = cc in
    let goes : reused_place c.args.p.now c.args.old c.args.name ≡ Some c.in-Some-new_place.to = sym c.in-Some-new_place.ensures in
    let start : c.entry_at-was.result.start ≡ first_of c.args.p.now c.in-Some.k = ap (λ (e : Entry). e.start) c.entry_at-was.ensures.value ∙ entry_start c.args.p.now c.in-Some.k in
    let end : c.entry_at-was.result.end ≡ last_of c.args.p.now c.in-Some.k = ap (λ (e : Entry). e.end) c.entry_at-was.ensures.value ∙ entry_end c.args.p.now c.in-Some.k in
    let ready = Ready-from c.args.p.now c.is_name_taken.ensures.good c.args.old c.args.name c.in-Some.k c.in-Some-new_place.to slot taken goes in
    ap catalogue (c.put_row-2.ensures ∙ ap (λ (xs : List ℕ). put_row xs c.in-Some-new_place.to c.file_slot-slot.result) c.put_row.ensures ∙ reused_made c.args.p.now c.gone_slot.result c.file_slot-slot.result c.args.name c.in-Some.k c.in-Some-new_place.to c.entry_at-was.result.start c.entry_at-was.result.end c.args.program c.gone_slot.ensures new start end)
    ∙ catalogue-reused c.args.p.now c.is_name_taken.ensures.good c.args.old c.in-Some.k c.in-Some.ensures.held c.args.name c.file_slot-slot.ensures.legal c.file_slot-slot.ensures.len ready.alone c.in-Some-new_place.to ready.low ready.high ready.vacant ready.clear c.args.program
    ∙ ap (λ (x : Entry). insert (remove (catalogue c.args.p.now) c.args.old) c.args.name (record x { name = c.args.name; live = true; program = c.args.program })) (sym c.entry_at-was.ensures.value)

pub returns-clause-image : goal.returns-clause-image
returns-clause-image c =
    let new : c.file_slot-slot.result ≡ file_slot (layout_of c.args.p.now) c.args.program c.entry_at-was.result.start c.entry_at-was.result.end c.args.name = rw (← c.layout.ensures) c.file_slot-slot.ensures.value in
    let k = c.in-Some.k in
    let good = c.is_name_taken.ensures.good in
    let at = c.in-Some.ensures.held in
    let slot : slot_found c.args.p.now c.args.old ≡ Some c.in-Some.k = sym c.in-Some.ensures.slot in
    let taken : (not (bytes_eq c.args.old c.args.name) && is_some (slot_found c.args.p.now c.args.name)) ≡ false = cc in
    let goes : reused_place c.args.p.now c.args.old c.args.name ≡ Some c.in-Some-new_place.to = sym c.in-Some-new_place.ensures in
    let start : c.entry_at-was.result.start ≡ first_of c.args.p.now c.in-Some.k = ap (λ (e : Entry). e.start) c.entry_at-was.ensures.value ∙ entry_start c.args.p.now c.in-Some.k in
    let end : c.entry_at-was.result.end ≡ last_of c.args.p.now c.in-Some.k = ap (λ (e : Entry). e.end) c.entry_at-was.ensures.value ∙ entry_end c.args.p.now c.in-Some.k in
    rw (goes, slot) (c.put_row-2.ensures ∙ ap (λ (xs : List ℕ). put_row xs c.in-Some-new_place.to c.file_slot-slot.result) c.put_row.ensures ∙ reused_made c.args.p.now c.gone_slot.result c.file_slot-slot.result c.args.name c.in-Some.k c.in-Some-new_place.to c.entry_at-was.result.start c.entry_at-was.result.end c.args.program c.gone_slot.ensures new start end)
