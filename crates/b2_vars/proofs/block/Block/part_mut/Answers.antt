use Rattle.std.proofs.Common.{◌-◌, ◌+◌, ◌∙◌, ap, ℕ, List, length, set, arith, refl}
use Rattle.std.proofs.lemmas.List.{length-map}
use Rattle.b2_vars.specs.Shapes.{cost}
use Rattle.b2_vars.specs.Block.{lowered}
use Rattle.b2_vars.proofs.Heads.{overhead-some}
use Rattle.b2_vars.proofs.Steps.{place-small, head-room, cost-room, used-room, shape-read, stored-there}
use Rattle.b2_vars.proofs.Lending.{IsTurned, alpha-is, bytes-low, length-turned, part-is, lent-invariant, lent-view}
use Rattle.b2_vars.proofs.block.Block.part_mut.Goals as goal

pub shape_at-shape-requires : goal.shape_at-shape-requires
shape_at-shape-requires c = omega (arith, ap (λ (b : List ℕ). length b) c.deref.ensures.value, head-room c.self.inside.bytes.items c.self.inside.used c.self.inside.places.items c.self.invariant c.args.self.now c.self.view_is c.args.v c.args.place c.requires.at)

pub turn-requires-clause-span : goal.turn-requires-clause-span
turn-requires-clause-span c = omega (arith, c.cost-size.ensures.cost, ap (cost c.args.v) (shape-read c.self.inside.bytes.items c.self.inside.used c.self.inside.places.items c.self.invariant c.args.self.now c.self.view_is c.args.v c.args.place c.requires.at c.shape_at-shape.result c.deref.result.now c.deref.ensures.value c.shape_at-shape.ensures), cost-room c.self.inside.bytes.items c.self.inside.used c.self.inside.places.items c.self.invariant c.args.self.now c.self.view_is c.args.v c.args.place c.requires.at)

pub turn-requires-clause-room : goal.turn-requires-clause-room
turn-requires-clause-room c = used-room c.self.inside.bytes.items c.self.inside.used c.self.inside.places.items c.self.invariant c.args.self.now c.self.view_is

pub overflow_cast-place : goal.overflow_cast-place
overflow_cast-place c = omega (arith, place-small c.self.inside.bytes.items c.self.inside.used c.self.inside.places.items c.self.invariant c.args.self.now c.self.view_is c.args.v c.args.place c.requires.at)

pub overflow_cast-size : goal.overflow_cast-size
overflow_cast-size c = omega (arith, c.cost-size.ensures.cost, ap (cost c.args.v) (shape-read c.self.inside.bytes.items c.self.inside.used c.self.inside.places.items c.self.invariant c.args.self.now c.self.view_is c.args.v c.args.place c.requires.at c.shape_at-shape.result c.deref.result.now c.deref.ensures.value c.shape_at-shape.ensures), cost-room c.self.inside.bytes.items c.self.inside.used c.self.inside.places.items c.self.invariant c.args.self.now c.self.view_is c.args.v c.args.place c.requires.at, used-room c.self.inside.bytes.items c.self.inside.used c.self.inside.places.items c.self.invariant c.args.self.now c.self.view_is, c.self.invariant.short)

pub number_of-requires : goal.number_of-requires
number_of-requires c = let h = stored-there c.self.inside.bytes.items c.self.inside.used c.self.inside.places.items c.self.invariant c.args.self.now c.self.view_is c.args.v c.args.place c.requires.at in h.variable.named

pub set_place-requires-clause-named : goal.set_place-requires-clause-named
set_place-requires-clause-named c = omega (arith, c.number_of.ensures.below, ap (λ (p : List ℕ). length p) c.lower.ensures, length-map c.self.inside.places.items (lowered c.args.place c.cost-size.result), c.self.invariant.named)

pub set_place-requires-clause-small : goal.set_place-requires-clause-small
set_place-requires-clause-small c =
    omega (
      arith,
      c.cost-size.ensures.cost,
      overhead-some c.args.v,
      ap (cost c.args.v) (shape-read c.self.inside.bytes.items c.self.inside.used c.self.inside.places.items c.self.invariant c.args.self.now c.self.view_is c.args.v c.args.place c.requires.at c.shape_at-shape.result c.deref.result.now c.deref.ensures.value c.shape_at-shape.ensures),
      cost-room c.self.inside.bytes.items c.self.inside.used c.self.inside.places.items c.self.invariant c.args.self.now c.self.view_is c.args.v c.args.place c.requires.at,
      used-room c.self.inside.bytes.items c.self.inside.used c.self.inside.places.items c.self.invariant c.args.self.now c.self.view_is,
      c.self.invariant.short,
    )

pub overflow_sub-self-inside : goal.overflow_sub-self-inside
overflow_sub-self-inside c = omega (arith, c.cost-size.ensures.cost, ap (cost c.args.v) (shape-read c.self.inside.bytes.items c.self.inside.used c.self.inside.places.items c.self.invariant c.args.self.now c.self.view_is c.args.v c.args.place c.requires.at c.shape_at-shape.result c.deref.result.now c.deref.ensures.value c.shape_at-shape.ensures), cost-room c.self.inside.bytes.items c.self.inside.used c.self.inside.places.items c.self.invariant c.args.self.now c.self.view_is c.args.v c.args.place c.requires.at)

pub overflow_sub-start : goal.overflow_sub-start
overflow_sub-start c = omega (arith, c.alpha_bytes.ensures.count, alpha-is c.self.inside.bytes.items c.self.inside.used c.self.inside.places.items c.self.invariant c.args.self.now c.self.view_is c.args.v c.args.place c.requires.at c.shape_at-shape.result c.deref.result.now c.deref.ensures.value c.shape_at-shape.ensures, bytes-low c.self.inside.bytes.items c.self.inside.used c.self.inside.places.items c.self.invariant c.args.self.now c.self.view_is c.args.v c.args.place c.requires.at)

pub overflow_add-start : goal.overflow_add-start
overflow_add-start c =
    omega (arith, c.alpha_bytes.ensures.count, alpha-is c.self.inside.bytes.items c.self.inside.used c.self.inside.places.items c.self.invariant c.args.self.now c.self.view_is c.args.v c.args.place c.requires.at c.shape_at-shape.result c.deref.result.now c.deref.ensures.value c.shape_at-shape.ensures, bytes-low c.self.inside.bytes.items c.self.inside.used c.self.inside.places.items c.self.invariant c.args.self.now c.self.view_is c.args.v c.args.place c.requires.at, c.requires.room, used-room c.self.inside.bytes.items c.self.inside.used c.self.inside.places.items c.self.invariant c.args.self.now c.self.view_is, c.self.inside.bytes.small, c.self.inside.bytes.ok.0, c.self.inside.bytes.ok.1)

pub overflow_add-end : goal.overflow_add-end
overflow_add-end c =
    omega (arith, c.alpha_bytes.ensures.count, alpha-is c.self.inside.bytes.items c.self.inside.used c.self.inside.places.items c.self.invariant c.args.self.now c.self.view_is c.args.v c.args.place c.requires.at c.shape_at-shape.result c.deref.result.now c.deref.ensures.value c.shape_at-shape.ensures, bytes-low c.self.inside.bytes.items c.self.inside.used c.self.inside.places.items c.self.invariant c.args.self.now c.self.view_is c.args.v c.args.place c.requires.at, c.requires.room, used-room c.self.inside.bytes.items c.self.inside.used c.self.inside.places.items c.self.invariant c.args.self.now c.self.view_is, c.self.inside.bytes.small, c.self.inside.bytes.ok.0, c.self.inside.bytes.ok.1)

pub slice_mut-requires-clause-in_bounds : goal.slice_mut-requires-clause-in_bounds
slice_mut-requires-clause-in_bounds c =
    let start = c.self.inside.used - c.alpha_bytes.result + c.args.from in
    let is : IsTurned c.self.inside.bytes.items c.self.inside.used c.self.inside.places.items c.self.invariant c.args.self.now c.self.view_is c.args.v c.args.place c.requires.at c.turn.new.all.items c.set_place.new.places.items c.cost-size.result c.number_of.result start c.turn.new.all.len c.args.from = record {
      size_is = c.cost-size.ensures.cost ∙ ap (cost c.args.v) (shape-read c.self.inside.bytes.items c.self.inside.used c.self.inside.places.items c.self.invariant c.args.self.now c.self.view_is c.args.v c.args.place c.requires.at c.shape_at-shape.result c.deref.result.now c.deref.ensures.value c.shape_at-shape.ensures);
      bytes_are = c.turn.ensures;
      places_are = c.set_place.ensures ∙ ap (λ (p : List ℕ). set p c.number_of.result (c.self.inside.used - c.cost-size.result + 1)) c.lower.ensures;
      number_is = c.number_of.ensures.number;
      below = c.number_of.ensures.below;
      start_is = omega (arith, c.alpha_bytes.ensures.count, alpha-is c.self.inside.bytes.items c.self.inside.used c.self.inside.places.items c.self.invariant c.args.self.now c.self.view_is c.args.v c.args.place c.requires.at c.shape_at-shape.result c.deref.result.now c.deref.ensures.value c.shape_at-shape.ensures, bytes-low c.self.inside.bytes.items c.self.inside.used c.self.inside.places.items c.self.invariant c.args.self.now c.self.view_is c.args.v c.args.place c.requires.at);
      low = omega (arith, c.requires.room);
      len_is = c.turn.new.all.ok.0;
    } in
    omega (arith, c.alpha_bytes.ensures.count, alpha-is c.self.inside.bytes.items c.self.inside.used c.self.inside.places.items c.self.invariant c.args.self.now c.self.view_is c.args.v c.args.place c.requires.at c.shape_at-shape.result c.deref.result.now c.deref.ensures.value c.shape_at-shape.ensures, bytes-low c.self.inside.bytes.items c.self.inside.used c.self.inside.places.items c.self.invariant c.args.self.now c.self.view_is c.args.v c.args.place c.requires.at, c.requires.room, used-room c.self.inside.bytes.items c.self.inside.used c.self.inside.places.items c.self.invariant c.args.self.now c.self.view_is, length-turned c.self.inside.bytes.items c.self.inside.used c.self.inside.places.items c.self.invariant c.args.self.now c.self.view_is c.args.v c.args.place c.requires.at c.turn.new.all.items c.set_place.new.places.items c.cost-size.result c.number_of.result start c.turn.new.all.len c.args.from is, c.turn.new.all.ok.0)

pub invariant_of-self-lent : goal.invariant_of-self-lent
invariant_of-self-lent c =
    let start = c.self.inside.used - c.alpha_bytes.result + c.args.from in
    let is : IsTurned c.self.inside.bytes.items c.self.inside.used c.self.inside.places.items c.self.invariant c.args.self.now c.self.view_is c.args.v c.args.place c.requires.at c.turn.new.all.items c.set_place.new.places.items c.cost-size.result c.number_of.result start c.turn.new.all.len c.args.from = record {
      size_is = c.cost-size.ensures.cost ∙ ap (cost c.args.v) (shape-read c.self.inside.bytes.items c.self.inside.used c.self.inside.places.items c.self.invariant c.args.self.now c.self.view_is c.args.v c.args.place c.requires.at c.shape_at-shape.result c.deref.result.now c.deref.ensures.value c.shape_at-shape.ensures);
      bytes_are = c.turn.ensures;
      places_are = c.set_place.ensures ∙ ap (λ (p : List ℕ). set p c.number_of.result (c.self.inside.used - c.cost-size.result + 1)) c.lower.ensures;
      number_is = c.number_of.ensures.number;
      below = c.number_of.ensures.below;
      start_is = omega (arith, c.alpha_bytes.ensures.count, alpha-is c.self.inside.bytes.items c.self.inside.used c.self.inside.places.items c.self.invariant c.args.self.now c.self.view_is c.args.v c.args.place c.requires.at c.shape_at-shape.result c.deref.result.now c.deref.ensures.value c.shape_at-shape.ensures, bytes-low c.self.inside.bytes.items c.self.inside.used c.self.inside.places.items c.self.invariant c.args.self.now c.self.view_is c.args.v c.args.place c.requires.at);
      low = omega (arith, c.requires.room);
      len_is = c.turn.new.all.ok.0;
    } in
    lent-invariant c.self.inside.bytes.items c.self.inside.used c.self.inside.places.items c.self.invariant c.args.self.now c.self.view_is c.args.v c.args.place c.requires.at c.turn.new.all.items c.set_place.new.places.items c.cost-size.result c.number_of.result start c.turn.new.all.len c.args.from is

pub returns : goal.returns
returns c =
    let start = c.self.inside.used - c.alpha_bytes.result + c.args.from in
    let is : IsTurned c.self.inside.bytes.items c.self.inside.used c.self.inside.places.items c.self.invariant c.args.self.now c.self.view_is c.args.v c.args.place c.requires.at c.turn.new.all.items c.set_place.new.places.items c.cost-size.result c.number_of.result start c.turn.new.all.len c.args.from = record {
      size_is = c.cost-size.ensures.cost ∙ ap (cost c.args.v) (shape-read c.self.inside.bytes.items c.self.inside.used c.self.inside.places.items c.self.invariant c.args.self.now c.self.view_is c.args.v c.args.place c.requires.at c.shape_at-shape.result c.deref.result.now c.deref.ensures.value c.shape_at-shape.ensures);
      bytes_are = c.turn.ensures;
      places_are = c.set_place.ensures ∙ ap (λ (p : List ℕ). set p c.number_of.result (c.self.inside.used - c.cost-size.result + 1)) c.lower.ensures;
      number_is = c.number_of.ensures.number;
      below = c.number_of.ensures.below;
      start_is = omega (arith, c.alpha_bytes.ensures.count, alpha-is c.self.inside.bytes.items c.self.inside.used c.self.inside.places.items c.self.invariant c.args.self.now c.self.view_is c.args.v c.args.place c.requires.at c.shape_at-shape.result c.deref.result.now c.deref.ensures.value c.shape_at-shape.ensures, bytes-low c.self.inside.bytes.items c.self.inside.used c.self.inside.places.items c.self.invariant c.args.self.now c.self.view_is c.args.v c.args.place c.requires.at);
      low = omega (arith, c.requires.room);
      len_is = c.turn.new.all.ok.0;
    } in (
      (refl, lent-view c.self.inside.bytes.items c.self.inside.used c.self.inside.places.items c.self.invariant c.args.self.now c.self.view_is c.args.v c.args.place c.requires.at c.turn.new.all.items c.set_place.new.places.items c.cost-size.result c.number_of.result start c.turn.new.all.len c.args.from is),
      record {
        writes_back = tt;
        part = c.slice_mut.ensures.value ∙ part-is c.self.inside.bytes.items c.self.inside.used c.self.inside.places.items c.self.invariant c.args.self.now c.self.view_is c.args.v c.args.place c.requires.at c.turn.new.all.items c.set_place.new.places.items c.cost-size.result c.number_of.result start c.turn.new.all.len c.args.from is c.args.n c.requires.room;
      },
    )
