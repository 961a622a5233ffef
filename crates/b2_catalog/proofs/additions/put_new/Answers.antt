use Rattle.std.proofs.Common.{◌≡◌, ◌+◌, ◌-◌, ◌/◌, ◌%◌, ℕ, List, length, arith, ap, ◌∙◌, sym, subst}
use Rattle.b2_platter.specs.Layout.{layout_of}
use Rattle.b2_platter.specs.Image.{sector}
use Rattle.b2_platter.specs.Checks.{IsGood}
use Rattle.b2_platter.proofs.Goodness.{Parts-of}
use Rattle.b2_platter.proofs.Layouts.{own_fits}
use Rattle.b2_catalog.specs.Changes.{put_row, file_slot, control_sector}
use Rattle.b2_catalog.proofs.Entering.{entered_made, three_edits, length-head_with_next}
use Rattle.b2_catalog.proofs.additions.put_new.Goals as goal

pub file_slot-slot-requires-clause-start_fits : goal.file_slot-slot-requires-clause-start_fits
file_slot-slot-requires-clause-start_fits c =
    let parts = Parts-of (layout_of c.args.p.now) c.args.p.now c.limits-start.ensures.good in
    rw c.layout-layout.ensures (own_fits c.args.p.now c.limits-start.ensures.good _ (omega (arith, c.limits-start.ensures.next)))

pub file_slot-slot-requires-clause-end_fits : goal.file_slot-slot-requires-clause-end_fits
file_slot-slot-requires-clause-end_fits c =
    let parts = Parts-of (layout_of c.args.p.now) c.args.p.now c.limits-start.ensures.good in
    rw c.layout-layout.ensures (own_fits c.args.p.now c.limits-start.ensures.good _ (omega (arith, c.limits-start.ensures.next)))

pub control_sector-requires : goal.control_sector-requires
control_sector-requires c =
    let parts = Parts-of (layout_of c.args.p.now) c.args.p.now c.limits-start.ensures.good in
    rw c.layout-layout.ensures (own_fits c.args.p.now c.limits-start.ensures.good 1 (omega arith))

pub put_catalogue-requires-clause-in_range : goal.put_catalogue-requires-clause-in_range
put_catalogue-requires-clause-in_range c =
    let parts = Parts-of (layout_of c.args.p.now) c.args.p.now c.limits-start.ensures.good in
    three_edits 0 (c.args.k / 16) _ _ _ _ _ (omega arith) (omega arith) (omega (arith, c.limits-start.ensures.next))

pub put_catalogue-requires-clause-good : goal.put_catalogue-requires-clause-good
put_catalogue-requires-clause-good c =
    let parts = Parts-of (layout_of c.args.p.now) c.args.p.now c.limits-start.ensures.good in
    let front : length c.head_with_next-head.result ≡ 16 = ap length c.head_with_next-head.ensures ∙ length-head_with_next c.args.p.now (c.limits-start.result.2 + c.args.sectors) in
    let slot : c.file_slot-slot.result ≡ file_slot (layout_of c.args.p.now) c.args.program c.limits-start.result.2 (c.limits-start.result.2 + c.args.sectors - 1) c.args.name = rw (← c.layout-layout.ensures) c.file_slot-slot.ensures.value in
    let control : c.control_sector.result ≡ control_sector (layout_of c.args.p.now) 1 = rw (← c.layout-layout.ensures) c.control_sector.ensures in
    let own : c.with_row-own.result ≡ put_row (sector (put_row c.args.p.now 0 c.head_with_next-head.result) (c.args.k / 16)) (c.args.k % 16) c.file_slot-slot.result = c.with_row-own.ensures ∙ ap (λ (xs : List ℕ). put_row xs (c.args.k % 16) c.file_slot-slot.result) c.index_sector.ensures in
    subst (λ (xs : List ℕ). IsGood xs) (sym (entered_made c.args.p.now c.index_sector-first.result c.with_row-own.result c.control_sector.result c.head_with_next-head.result c.file_slot-slot.result c.args.name c.args.k c.limits-start.result.2 c.args.sectors c.args.program c.limits-start.ensures.next c.head_with_next-head.ensures c.index_sector-first.ensures slot own control front (omega arith))) c.requires.good

pub returns : goal.returns
returns c =
    let parts = Parts-of (layout_of c.args.p.now) c.args.p.now c.limits-start.ensures.good in
    let front : length c.head_with_next-head.result ≡ 16 = ap length c.head_with_next-head.ensures ∙ length-head_with_next c.args.p.now (c.limits-start.result.2 + c.args.sectors) in
    let slot : c.file_slot-slot.result ≡ file_slot (layout_of c.args.p.now) c.args.program c.limits-start.result.2 (c.limits-start.result.2 + c.args.sectors - 1) c.args.name = rw (← c.layout-layout.ensures) c.file_slot-slot.ensures.value in
    let control : c.control_sector.result ≡ control_sector (layout_of c.args.p.now) 1 = rw (← c.layout-layout.ensures) c.control_sector.ensures in
    let own : c.with_row-own.result ≡ put_row (sector (put_row c.args.p.now 0 c.head_with_next-head.result) (c.args.k / 16)) (c.args.k % 16) c.file_slot-slot.result = c.with_row-own.ensures ∙ ap (λ (xs : List ℕ). put_row xs (c.args.k % 16) c.file_slot-slot.result) c.index_sector.ensures in
    c.put_catalogue.ensures ∙ entered_made c.args.p.now c.index_sector-first.result c.with_row-own.result c.control_sector.result c.head_with_next-head.result c.file_slot-slot.result c.args.name c.args.k c.limits-start.result.2 c.args.sectors c.args.program c.limits-start.ensures.next c.head_with_next-head.ensures c.index_sector-first.ensures slot own control front (omega arith)
