use Rattle.std.proofs.Common.{◌≡◌, true, false, Some, None, length, arith, ap, ◌∙◌, sym, refl, rules}
use Rattle.std.specs.Prelude.{is_some}
use Rattle.b2_base.specs.Names.{is_name8}
use Rattle.b2_platter.specs.Layout.{layout_of}
use Rattle.b2_platter.proofs.Goodness.{Parts-of}
use Rattle.b2_catalog.specs.Ways.{slot_found, place}
use Rattle.b2_catalog.proofs.Placing.{Placed-from}
use Rattle.b2_catalog.proofs.Refusals.{enter_present, enter_full, enter_short, enter_taken, slot_none}
use Rattle.b2_catalog.proofs.Entering.{entered_good, catalogue-entered}
use Rattle.b2_catalog.proofs.additions.enter.Goals as goal

pub returns-then-is_some-clause-err : goal.returns-then-is_some-clause-err
returns-then-is_some-clause-err c =
    let has : is_some (slot_found c.args.p.now c.args.name) ≡ true = cc in
    (enter_present c.args.p.now c.args.name c.args.sectors has ∙ ap Some (sym c.known.ensures), refl)

pub place_for-requires-clause-some : goal.place_for-requires-clause-some
place_for-requires-clause-some c = let parts = Parts-of (layout_of c.args.p.now) c.args.p.now c.image.ensures.good in rw c.image.ensures.value parts.some

pub place_for-requires-clause-room : goal.place_for-requires-clause-room
place_for-requires-clause-room c = let parts = Parts-of (layout_of c.args.p.now) c.args.p.now c.image.ensures.good in rw c.image.ensures.value (omega (arith, parts.whole, parts.files, parts.free, parts.rest))

pub returns-in_default-clause-err : goal.returns-in_default-clause-err
returns-in_default-clause-err c =
    let lacks : is_some (slot_found c.args.p.now c.args.name) ≡ false = cc in
    let full : place c.args.p.now c.args.name ≡ None = sym (c.in_default.ensures ∙ rw (c.image.ensures.value, c.bytes.ensures.value) refl) in
    (enter_full c.args.p.now c.args.name c.args.sectors lacks full ∙ ap Some (sym c.known-in_default.ensures), refl)

pub overflow_sub-end : goal.overflow_sub-end
overflow_sub-end c = let parts = Parts-of (layout_of c.args.p.now) c.args.p.now c.image.ensures.good in omega (arith, c.limits-end.ensures.next, c.limits-end.ensures.end)

pub returns-then-sectors-end-clause-err : goal.returns-then-sectors-end-clause-err
returns-then-sectors-end-clause-err c =
    let lacks : is_some (slot_found c.args.p.now c.args.name) ≡ false = cc in
    let free : place c.args.p.now c.args.name ≡ Some c.in-Some.k = sym (c.in-Some.ensures ∙ rw (c.image.ensures.value, c.bytes.ensures.value) refl) in
    (enter_short c.args.p.now c.args.name c.args.sectors c.in-Some.k lacks free (omega (arith, c.limits-end.ensures.next, c.limits-end.ensures.end)) ∙ ap Some (sym c.known-then-sectors-end.ensures), refl)

pub put_new-requires-clause-low : goal.put_new-requires-clause-low
put_new-requires-clause-low c =
    let free : place c.args.p.now c.args.name ≡ Some c.in-Some.k = sym (c.in-Some.ensures ∙ rw (c.image.ensures.value, c.bytes.ensures.value) refl) in
    (Placed-from c.args.p.now c.image.ensures.good c.args.name c.in-Some.k free).low

pub put_new-requires-clause-high : goal.put_new-requires-clause-high
put_new-requires-clause-high c =
    let free : place c.args.p.now c.args.name ≡ Some c.in-Some.k = sym (c.in-Some.ensures ∙ rw (c.image.ensures.value, c.bytes.ensures.value) refl) in
    (Placed-from c.args.p.now c.image.ensures.good c.args.name c.in-Some.k free).high

pub put_new-requires-clause-good : goal.put_new-requires-clause-good
put_new-requires-clause-good c =
    let lacks : is_some (slot_found c.args.p.now c.args.name) ≡ false = cc in
    let free : place c.args.p.now c.args.name ≡ Some c.in-Some.k = sym (c.in-Some.ensures ∙ rw (c.image.ensures.value, c.bytes.ensures.value) refl) in
    let long : length c.bytes.result ≡ 8 = search rules in
    let parts = Parts-of (layout_of c.args.p.now) c.args.p.now c.image.ensures.good in
    entered_good c.args.p.now c.image.ensures.good c.args.name (ap is_name8 (sym c.bytes.ensures.value) ∙ c.bytes.ensures.legal) (ap length (sym c.bytes.ensures.value) ∙ long) c.in-Some.k (Placed-from c.args.p.now c.image.ensures.good c.args.name c.in-Some.k free) (slot_none c.args.p.now c.args.name lacks) c.args.program c.args.sectors c.requires (omega (arith, c.limits-end.ensures.next, c.limits-end.ensures.end))

pub returns-clause-ok : goal.returns-clause-ok
returns-clause-ok c =
    let lacks : is_some (slot_found c.args.p.now c.args.name) ≡ false = cc in
    let free : place c.args.p.now c.args.name ≡ Some c.in-Some.k = sym (c.in-Some.ensures ∙ rw (c.image.ensures.value, c.bytes.ensures.value) refl) in
    let parts = Parts-of (layout_of c.args.p.now) c.args.p.now c.image.ensures.good in
    (enter_taken c.args.p.now c.args.name c.args.sectors c.in-Some.k lacks free (omega (arith, c.limits-end.ensures.next, c.limits-end.ensures.end)), rw c.limits-end.ensures.next refl)

pub returns-clause-catalogue : goal.returns-clause-catalogue
returns-clause-catalogue c =
    let lacks : is_some (slot_found c.args.p.now c.args.name) ≡ false = cc in
    let free : place c.args.p.now c.args.name ≡ Some c.in-Some.k = sym (c.in-Some.ensures ∙ rw (c.image.ensures.value, c.bytes.ensures.value) refl) in
    let long : length c.bytes.result ≡ 8 = search rules in
    let parts = Parts-of (layout_of c.args.p.now) c.args.p.now c.image.ensures.good in
    rw (c.put_new.ensures, c.limits-end.ensures.next)
    (catalogue-entered c.args.p.now c.image.ensures.good c.args.name (ap is_name8 (sym c.bytes.ensures.value) ∙ c.bytes.ensures.legal) (ap length (sym c.bytes.ensures.value) ∙ long) c.in-Some.k (Placed-from c.args.p.now c.image.ensures.good c.args.name c.in-Some.k free) (slot_none c.args.p.now c.args.name lacks) c.args.program c.args.sectors c.requires (omega (arith, c.limits-end.ensures.next, c.limits-end.ensures.end)))
