use Rattle.std.proofs.Common.{◌≡◌, ◌+◌, ◌*◌, ◌≤◌, ◌<◌, ◌∙◌, ap, sym, subst, ℕ, List, length, set, replicate, arith}
use Rattle.b2_base.specs.Byte as byte
use Rattle.b2_vars.specs.Shapes.{cost}
use Rattle.b2_vars.specs.Variables.{fresh, overwritten}
use Rattle.b2_vars.specs.Block.{head_bytes, entry_bytes, number_of, state_of}
use Rattle.b2_vars.specs.Calls.{with_variable}
use Rattle.b2_vars.proofs.Heads.{overhead-some}
use Rattle.b2_vars.proofs.Overwriting.{length-overwritten}
use Rattle.b2_vars.proofs.ReadEntries.{length-entry, sizes}
use Rattle.b2_vars.proofs.Laying.{Shows, shows-laid, shows-state}
use Rattle.b2_vars.proofs.Steps.{same-area, count-is}
use Rattle.b2_vars.proofs.Adding.{fresh-written, fresh-stored}
use Rattle.b2_vars.proofs.Changes.{add-step}
use Rattle.b2_vars.proofs.block.Block.add.Goals as goal

pub write_head-requires : goal.write_head-requires
write_head-requires c = omega (arith, c.requires.room, count-is c.self.inside.bytes.items c.self.inside.used c.self.inside.places.items c.self.invariant c.args.self.now c.self.view_is, same-area c.self.inside.bytes.items c.self.inside.used c.self.inside.places.items c.self.invariant c.args.self.now c.self.view_is)

pub fill-requires : goal.fill-requires
fill-requires c =
    omega (
      arith,
      c.requires.room,
      count-is c.self.inside.bytes.items c.self.inside.used c.self.inside.places.items c.self.invariant c.args.self.now c.self.view_is,
      same-area c.self.inside.bytes.items c.self.inside.used c.self.inside.places.items c.self.invariant c.args.self.now c.self.view_is,
      c.overhead.ensures.overhead,
      c.number_cells-numbers.ensures.count,
      sizes c.args.v c.args.shape c.requires.value_length,
      ap (λ (b : List ℕ). length b) c.write_head.ensures,
      length-overwritten c.self.inside.used (head_bytes c.args.v c.args.shape c.args.common) c.self.inside.bytes.items,
    )

pub fill-requires-2 : goal.fill-requires-2
fill-requires-2 c =
    omega (
      arith,
      c.requires.room,
      count-is c.self.inside.bytes.items c.self.inside.used c.self.inside.places.items c.self.invariant c.args.self.now c.self.view_is,
      same-area c.self.inside.bytes.items c.self.inside.used c.self.inside.places.items c.self.invariant c.args.self.now c.self.view_is,
      c.overhead.ensures.overhead,
      c.number_cells-numbers.ensures.count,
      c.alpha_bytes.ensures.count,
      sizes c.args.v c.args.shape c.requires.value_length,
      ap (λ (b : List ℕ). length b) c.write_head.ensures,
      length-overwritten c.self.inside.used (head_bytes c.args.v c.args.shape c.args.common) c.self.inside.bytes.items,
      ap (λ (b : List ℕ). length b) c.fill.ensures,
      length-overwritten (c.self.inside.used + c.overhead.result) (replicate {A = ℕ} (c.number_cells-numbers.result * 8) 0) c.write_head.new.all.items,
    )

pub set_place-requires-clause-named : goal.set_place-requires-clause-named
set_place-requires-clause-named c = omega (arith, c.number_of.ensures.below, c.self.invariant.named)

pub set_place-requires-clause-small : goal.set_place-requires-clause-small
set_place-requires-clause-small c =
    omega (
      arith,
      c.requires.room,
      overhead-some c.args.v,
      count-is c.self.inside.bytes.items c.self.inside.used c.self.inside.places.items c.self.invariant c.args.self.now c.self.view_is,
      same-area c.self.inside.bytes.items c.self.inside.used c.self.inside.places.items c.self.invariant c.args.self.now c.self.view_is,
      c.self.invariant.short,
    )

pub invariant_of-self : goal.invariant_of-self
invariant_of-self c =
    let v = c.args.v in
    let s = c.args.shape in
    let k = c.args.common in
    let used = c.self.inside.used in
    let block = c.self.inside.bytes.items in
    let room : used + cost v s ≤ length block = omega (arith, c.requires.room, count-is c.self.inside.bytes.items c.self.inside.used c.self.inside.places.items c.self.invariant c.args.self.now c.self.view_is, same-area c.self.inside.bytes.items c.self.inside.used c.self.inside.places.items c.self.invariant c.args.self.now c.self.view_is) in
    let stored = fresh-stored v s k c.requires.named c.requires.dimensions c.requires.value_length in
    let long = length-entry v (fresh v s k) stored.variable in
    let inner = c.fill.ensures ∙ (λ i. overwritten (used + c.overhead.ensures.overhead i) (replicate (c.number_cells-numbers.ensures.count i * 8) 0) (c.write_head.ensures i)) in
    let bytes : c.fill-2.new.all.items ≡ overwritten used (entry_bytes (v, fresh v s k)) block =
    c.fill-2.ensures ∙ (λ i. overwritten (used + c.overhead.ensures.overhead i + c.number_cells-numbers.ensures.count i * 8) (replicate (c.alpha_bytes.ensures.count i) byte.blank) (inner i))
    ∙ fresh-written v s k used block (omega (arith, room, long)) in
    let spots = c.set_place.ensures ∙ ap (λ (n : ℕ). set c.self.inside.places.items n (used + 1)) c.number_of.ensures.number in
    let below : number_of v < 1144 = omega (arith, c.number_of.ensures.number, c.number_of.ensures.below) in
    let count : used + c.cost.result ≡ used + cost v s = ap (λ (n : ℕ). used + n) c.cost.ensures.cost in
    let after = with_variable v (fresh v s k) (state_of c.args.self.now) in
    let shows : Shows c.fill-2.new.all.items (used + c.cost.result) c.set_place.new.places.items after =
    subst (λ (b : List ℕ). Shows b (used + c.cost.result) c.set_place.new.places.items after) (sym bytes)
    (subst (λ (n : ℕ). Shows (overwritten used (entry_bytes (v, fresh v s k)) block) n c.set_place.new.places.items after) (sym count)
    (subst (λ (p : List ℕ). Shows (overwritten used (entry_bytes (v, fresh v s k)) block) (used + cost v s) p after) (sym spots)
    (add-step c.self.inside.bytes.items c.self.inside.used c.self.inside.places.items c.self.invariant c.args.self.now c.self.view_is v s k c.requires.missing c.requires.named c.requires.dimensions c.requires.value_length below room))) in
    shows-laid _ _ _ _ shows

pub returns : goal.returns
returns c =
    let v = c.args.v in
    let s = c.args.shape in
    let k = c.args.common in
    let used = c.self.inside.used in
    let block = c.self.inside.bytes.items in
    let room : used + cost v s ≤ length block = omega (arith, c.requires.room, count-is c.self.inside.bytes.items c.self.inside.used c.self.inside.places.items c.self.invariant c.args.self.now c.self.view_is, same-area c.self.inside.bytes.items c.self.inside.used c.self.inside.places.items c.self.invariant c.args.self.now c.self.view_is) in
    let stored = fresh-stored v s k c.requires.named c.requires.dimensions c.requires.value_length in
    let long = length-entry v (fresh v s k) stored.variable in
    let inner = c.fill.ensures ∙ (λ i. overwritten (used + c.overhead.ensures.overhead i) (replicate (c.number_cells-numbers.ensures.count i * 8) 0) (c.write_head.ensures i)) in
    let bytes : c.fill-2.new.all.items ≡ overwritten used (entry_bytes (v, fresh v s k)) block =
    c.fill-2.ensures ∙ (λ i. overwritten (used + c.overhead.ensures.overhead i + c.number_cells-numbers.ensures.count i * 8) (replicate (c.alpha_bytes.ensures.count i) byte.blank) (inner i))
    ∙ fresh-written v s k used block (omega (arith, room, long)) in
    let spots = c.set_place.ensures ∙ ap (λ (n : ℕ). set c.self.inside.places.items n (used + 1)) c.number_of.ensures.number in
    let below : number_of v < 1144 = omega (arith, c.number_of.ensures.number, c.number_of.ensures.below) in
    let count : used + c.cost.result ≡ used + cost v s = ap (λ (n : ℕ). used + n) c.cost.ensures.cost in
    let after = with_variable v (fresh v s k) (state_of c.args.self.now) in
    let shows : Shows c.fill-2.new.all.items (used + c.cost.result) c.set_place.new.places.items after =
    subst (λ (b : List ℕ). Shows b (used + c.cost.result) c.set_place.new.places.items after) (sym bytes)
    (subst (λ (n : ℕ). Shows (overwritten used (entry_bytes (v, fresh v s k)) block) n c.set_place.new.places.items after) (sym count)
    (subst (λ (p : List ℕ). Shows (overwritten used (entry_bytes (v, fresh v s k)) block) (used + cost v s) p after) (sym spots)
    (add-step c.self.inside.bytes.items c.self.inside.used c.self.inside.places.items c.self.invariant c.args.self.now c.self.view_is v s k c.requires.missing c.requires.named c.requires.dimensions c.requires.value_length below room))) in
    shows-state _ _ _ _ shows
