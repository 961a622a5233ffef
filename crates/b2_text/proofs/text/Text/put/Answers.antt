use Rattle.std.proofs.Common.{◌+◌, ◌-◌, ◌<◌, ◌≤◌, ◌∙◌, Bool, List, ℕ, ap, sym, subst, length, vec_capacity, arith, nat_cmp}
use Rattle.std.specs.List.Sorted.{IsStrictlySortedBy}
use Rattle.b2_text.specs.Blocks.{holds_data, is_opening, lines_laid}
use Rattle.b2_text.specs.Members.{with_member}
use Rattle.b2_text.specs.Program.{cost_at, with_line}
use Rattle.b2_text.proofs.Blocks.{length_laid}
use Rattle.b2_text.proofs.Sizes.{cost_at-le}
use Rattle.b2_text.proofs.Keeping.{HasRoom, fits_by, kept_with, over, room_for}
use Rattle.b2_text.proofs.KeptLists.{listed_with, room_listed}
use Rattle.b2_text.proofs.Listing.{sorted_listed}
use Rattle.b2_text.proofs.NoLine.{long_data, long_opening}
use Rattle.b2_text.proofs.text.Text.put.Goals as goal

pub overflow_sub-rest : goal.overflow_sub-rest
overflow_sub-rest c =
    let part = cost_at-le c.args.n (lines_laid c.self.inside.block.items c.self.inside.places.items) in
    let whole = length_laid c.self.inside.block.items c.self.inside.places.items c.self.invariant.0.laid in
    let cost = c.cost_of.ensures in
    let len = c.len.ensures in
    omega (arith, part, whole, cost, len)

pub returns-then-cost-self-clause-full : goal.returns-then-cost-self-clause-full
returns-then-cost-self-clause-full c =
    let block = c.self.inside.block.items in
    let places = c.self.inside.places.items in
    let same = ap (λ (b : List ℕ). length b) (c.bytes.ensures.value ∙ c.lend-line.ensures) in
    let cost = c.cost_of.ensures in
    let len = c.len.ensures in
    let more : c.self.inside.area - (length block - cost_at c.args.n (lines_laid block places)) < length c.args.a.now + 5 =
    omega (arith, c.if-cost-self.true, same, cost, len) in
    (c.known.ensures, rw (← c.self.view_is) (over c.self.inside.area c.args.n c.args.a.now block places c.self.inside.units.items c.self.invariant.0 more))

-- so there is room for it
room : (c : goal.After-spans) → HasRoom c.self.inside.area (vec_capacity c.self.inside.block) (vec_capacity c.self.inside.places) (vec_capacity c.self.inside.units)
    (with_line c.args.n c.bytes-2.result.now (lines_laid c.self.inside.block.items c.self.inside.places.items))
room c =
    let ls = lines_laid c.self.inside.block.items c.self.inside.places.items in
    subst (λ (b : List ℕ). HasRoom c.self.inside.area (vec_capacity c.self.inside.block) (vec_capacity c.self.inside.places) (vec_capacity c.self.inside.units) (with_line c.args.n b ls))
    (sym (c.bytes-2.ensures.value ∙ c.lend-line.ensures))
    (room_for c.self.inside.area (vec_capacity c.self.inside.block) (vec_capacity c.self.inside.units) (vec_capacity c.self.inside.places) c.args.n c.args.a.now c.spans.result.now
    c.self.inside.block.items c.self.inside.places.items c.self.inside.units.items c.self.invariant.0 c.self.invariant.1 c.spans.ensures (fits_by c.self.inside.area c.args.n c.cost_of.result c.len.result c.args.a.now c.bytes.result.now c.self.inside.block.items c.self.inside.places.items c.self.inside.units.items
    c.self.invariant.0 (c.bytes.ensures.value ∙ c.lend-line.ensures) c.cost_of.ensures (omega (arith, c.len.ensures)) c.if-cost-self.false))

pub put_number-requires-clause-small : goal.put_number-requires-clause-small
put_number-requires-clause-small c = (room c).small

pub put_number-requires-clause-room : goal.put_number-requires-clause-room
put_number-requires-clause-room c = (room c).bytes_fit

pub put_number-requires-clause-units_room : goal.put_number-requires-clause-units_room
put_number-requires-clause-units_room c = (room c).units_fit

pub put_number-requires-clause-index_room : goal.put_number-requires-clause-index_room
put_number-requires-clause-index_room c = (room c).lines_fit

pub set_member-requires-clause-ordered : goal.set_member-requires-clause-ordered
set_member-requires-clause-ordered c =
    subst (IsStrictlySortedBy nat_cmp) (sym c.self.invariant.2.opening)
    (sorted_listed is_opening (lines_laid c.self.inside.block.items c.self.inside.places.items) c.self.invariant.0.ordered)

pub set_member-requires-clause-room : goal.set_member-requires-clause-room
set_member-requires-clause-room c =
    let fits =
    fits_by c.self.inside.area c.args.n c.cost_of.result c.len.result c.args.a.now c.bytes.result.now c.self.inside.block.items c.self.inside.places.items c.self.inside.units.items
    c.self.invariant.0 (c.bytes.ensures.value ∙ c.lend-line.ensures) c.cost_of.ensures (omega (arith, c.len.ensures)) c.if-cost-self.false in
    let stands = c.is_opening.ensures ∙ ap is_opening c.lend-line.ensures in
    subst (λ (b : Bool). length (with_member b c.args.n c.self.inside.openers.items) ≤ vec_capacity c.self.inside.openers) (sym stands)
    (room_listed is_opening long_opening c.self.inside.area c.args.n c.args.a.now c.spans.result.now c.self.inside.block.items c.self.inside.places.items c.self.inside.units.items
    c.self.inside.openers.items (vec_capacity c.self.inside.openers) c.self.invariant.0 c.spans.ensures fits c.self.invariant.2.opening c.self.invariant.2.for_openers)

pub set_member-requires-2-clause-ordered : goal.set_member-requires-2-clause-ordered
set_member-requires-2-clause-ordered c =
    subst (IsStrictlySortedBy nat_cmp) (sym c.self.invariant.2.holding)
    (sorted_listed holds_data (lines_laid c.self.inside.block.items c.self.inside.places.items) c.self.invariant.0.ordered)

pub set_member-requires-2-clause-room : goal.set_member-requires-2-clause-room
set_member-requires-2-clause-room c =
    let fits =
    fits_by c.self.inside.area c.args.n c.cost_of.result c.len.result c.args.a.now c.bytes.result.now c.self.inside.block.items c.self.inside.places.items c.self.inside.units.items
    c.self.invariant.0 (c.bytes.ensures.value ∙ c.lend-line.ensures) c.cost_of.ensures (omega (arith, c.len.ensures)) c.if-cost-self.false in
    let stands = c.holds_data.ensures ∙ ap holds_data c.lend-line.ensures in
    subst (λ (b : Bool). length (with_member b c.args.n c.self.inside.datas.items) ≤ vec_capacity c.self.inside.datas) (sym stands)
    (room_listed holds_data long_data c.self.inside.area c.args.n c.args.a.now c.spans.result.now c.self.inside.block.items c.self.inside.places.items c.self.inside.units.items
    c.self.inside.datas.items (vec_capacity c.self.inside.datas) c.self.invariant.0 c.spans.ensures fits c.self.invariant.2.holding c.self.invariant.2.for_datas)

pub invariant_of-self : goal.invariant_of-self
invariant_of-self c =
    let block = c.self.inside.block.items in
    let places = c.self.inside.places.items in
    let n = c.args.n in
    let line = c.lend-line.ensures in
    let atoms = c.bytes-2.ensures.value ∙ line in
    let lines = c.put_number.ensures.lines ∙ ap (λ (b : List ℕ). with_line n b (lines_laid block places)) atoms in
    let bytes = c.put_number.ensures.capacity in
    let index = c.put_number.ensures.index_capacity in
    let units = c.put_number.ensures.units_capacity in
    let openers = c.set_member.ensures.capacity in
    let datas = c.set_member-2.ensures.capacity in
    let fits =
    fits_by c.self.inside.area n c.cost_of.result c.len.result c.args.a.now c.bytes.result.now block places c.self.inside.units.items
    c.self.invariant.0 (c.bytes.ensures.value ∙ line) c.cost_of.ensures (omega (arith, c.len.ensures)) c.if-cost-self.false in
    let before = c.self.invariant.1 in (
      kept_with c.self.inside.area n c.args.a.now block c.put_number.new.block.items places c.put_number.new.places.items c.self.inside.units.items c.put_number.new.units.items
          c.requires c.self.invariant.0 fits c.put_number.ensures.laid lines c.put_number.ensures.ordered c.put_number.ensures.kept,
      record {
        few = before.few;
        for_bytes = omega (arith, bytes, before.for_bytes);
        for_places = omega (arith, index, before.for_places);
        for_units = omega (arith, units, before.for_units);
      },
      listed_with c.self.inside.area n c.args.a.now (lines_laid block places) (lines_laid c.put_number.new.block.items c.put_number.new.places.items)
          c.self.inside.openers.items c.self.inside.datas.items c.set_member.new.numbers.items c.set_member-2.new.numbers.items _ _ _ _ c.self.invariant.2 c.self.invariant.0.ordered lines
          (c.set_member.ensures.items ∙ ap (λ (b : Bool). with_member b n c.self.inside.openers.items) (c.is_opening.ensures ∙ ap is_opening line))
          (c.set_member-2.ensures.items ∙ ap (λ (b : Bool). with_member b n c.self.inside.datas.items) (c.holds_data.ensures ∙ ap holds_data line))
          (omega (arith, openers)) (omega (arith, datas)),
      c.put_number.ensures.numbered,
    )

pub returns-clause-fits : goal.returns-clause-fits
returns-clause-fits c = rw (← c.self.view_is) (fits_by c.self.inside.area c.args.n c.cost_of.result c.len.result c.args.a.now c.bytes.result.now c.self.inside.block.items c.self.inside.places.items c.self.inside.units.items
    c.self.invariant.0 (c.bytes.ensures.value ∙ c.lend-line.ensures) c.cost_of.ensures (omega (arith, c.len.ensures)) c.if-cost-self.false)
