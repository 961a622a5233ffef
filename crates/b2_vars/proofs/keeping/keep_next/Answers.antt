use Rattle.std.proofs.Common.{◌+◌, ◌<◌, ◌∙◌, ap, sym, subst, ℕ, List, length, drop, set, arith, refl}
use Rattle.std.specs.List.{copy_within}
use Rattle.b2_vars.specs.Shapes.{cost, overhead}
use Rattle.b2_vars.specs.Block.{IsKept, number_of, read_common}
use Rattle.b2_vars.proofs.Heads.{overhead-some}
use Rattle.b2_vars.proofs.CommonEntries.{first, room-here, used-low, size-is, name-read, legal-next, length-moved, common-is, kept-other, kept-common}
use Rattle.b2_vars.proofs.keeping.keep_next.Goals as goal

pub name_at-v-requires : goal.name_at-v-requires
name_at-v-requires c =
    let h = c.requires.kept.1 in
    let f = first c.args.bytes.now.items c.args.from c.args.to c.args.used c.args.places.now.items _ h c.requires.more in
    omega (arith, ap (λ (b : List ℕ). length b) c.deref.ensures.value, room-here c.args.bytes.now.items c.args.from c.args.to c.args.used c.args.places.now.items _ h c.requires.more, used-low c.args.bytes.now.items c.args.from c.args.to c.args.used c.args.places.now.items _ h c.requires.more, overhead-some f.v)

pub shape_at-requires : goal.shape_at-requires
shape_at-requires c =
    let h = c.requires.kept.1 in
    let is = name-read c.args.bytes.now.items c.args.from c.args.to c.args.used c.args.places.now.items _ h c.requires.more c.name_at-v.result c.deref.result.now c.deref.ensures.value c.name_at-v.ensures in
    omega (arith, ap (λ (b : List ℕ). length b) c.deref-2.ensures.value, room-here c.args.bytes.now.items c.args.from c.args.to c.args.used c.args.places.now.items _ h c.requires.more, used-low c.args.bytes.now.items c.args.from c.args.to c.args.used c.args.places.now.items _ h c.requires.more, ap overhead is)

pub common_at-requires : goal.common_at-requires
common_at-requires c =
    let h = c.requires.kept.1 in
    let f = first c.args.bytes.now.items c.args.from c.args.to c.args.used c.args.places.now.items _ h c.requires.more in
    omega (arith, ap (λ (b : List ℕ). length b) c.deref-3.ensures.value, room-here c.args.bytes.now.items c.args.from c.args.to c.args.used c.args.places.now.items _ h c.requires.more, used-low c.args.bytes.now.items c.args.from c.args.to c.args.used c.args.places.now.items _ h c.requires.more, overhead-some f.v)

pub number_of-requires : goal.number_of-requires
number_of-requires c = legal-next c.args.bytes.now.items c.args.from c.args.to c.args.used c.args.places.now.items _ c.requires.kept.1 c.requires.more c.name_at-v.result c.deref.result.now c.deref.ensures.value c.name_at-v.ensures

pub number_of-requires-else-common_at : goal.number_of-requires-else-common_at
number_of-requires-else-common_at c = legal-next c.args.bytes.now.items c.args.from c.args.to c.args.used c.args.places.now.items _ c.requires.kept.1 c.requires.more c.name_at-v.result c.deref.result.now c.deref.ensures.value c.name_at-v.ensures

pub set_place-requires-clause-small : goal.set_place-requires-clause-small
set_place-requires-clause-small c =
    let h = c.requires.kept.1 in
    omega (arith, h.from_is, c.requires.more, used-low c.args.bytes.now.items c.args.from c.args.to c.args.used c.args.places.now.items _ h c.requires.more, h.short)

pub close_up-requires-clause-order : goal.close_up-requires-clause-order
close_up-requires-clause-order c = let h = c.requires.kept.1 in omega (arith, h.from_is)

pub close_up-requires-clause-room : goal.close_up-requires-clause-room
close_up-requires-clause-room c =
    let h = c.requires.kept.1 in
    omega (arith, size-is c.args.bytes.now.items c.args.from c.args.to c.args.used c.args.places.now.items _ h c.requires.more c.name_at-v.result c.shape_at.result c.deref.result.now c.deref-2.result.now c.deref.ensures.value c.deref-2.ensures.value c.name_at-v.ensures c.shape_at.ensures, c.cost-size.ensures.cost, room-here c.args.bytes.now.items c.args.from c.args.to c.args.used c.args.places.now.items _ h c.requires.more, used-low c.args.bytes.now.items c.args.from c.args.to c.args.used c.args.places.now.items _ h c.requires.more)

pub returns-then-common_at : goal.returns-then-common_at
returns-then-common_at c = record {
  kept = λ es h.
      let f = first c.args.bytes.now.items c.args.from c.args.to c.args.used c.args.places.now.items _ h c.requires.more in
      let is = name-read c.args.bytes.now.items c.args.from c.args.to c.args.used c.args.places.now.items _ h c.requires.more c.name_at-v.result c.deref.result.now c.deref.ensures.value c.name_at-v.ensures in
      let size = c.cost-size.ensures.cost ∙ size-is c.args.bytes.now.items c.args.from c.args.to c.args.used c.args.places.now.items _ h c.requires.more c.name_at-v.result c.shape_at.result c.deref.result.now c.deref-2.result.now c.deref.ensures.value c.deref-2.ensures.value c.name_at-v.ensures c.shape_at.ensures in
      let common = sym (common-is c.args.bytes.now.items c.args.from c.args.to c.args.used c.args.places.now.items _ h c.requires.more) ∙ sym (ap (λ (b : List ℕ). read_common (drop c.args.from b)) c.deref-3.ensures.value) ∙ sym c.common_at.ensures ∙ c.if-common_at.true in
      let number = c.number_of.ensures.number ∙ ap number_of is in
      let below : number_of f.v < 1144 = omega (arith, number, c.number_of.ensures.below) in
      let bytes = c.close_up.ensures ∙ ap (λ (n : ℕ). copy_within c.args.bytes.now.items c.args.from (c.args.from + n) c.args.to) size in
      let spots = c.set_place.ensures ∙ ap (λ (n : ℕ). set c.args.places.now.items n (c.args.to + 1)) number in
      subst (λ (b : List ℕ). IsKept b (c.args.from + c.cost-size.result) (c.args.to + c.cost-size.result) c.args.used c.set_place.new.places.items es) (sym bytes)
      (subst (λ (p : List ℕ). IsKept (copy_within c.args.bytes.now.items c.args.from (c.args.from + cost f.v f.x.shape) c.args.to) (c.args.from + c.cost-size.result) (c.args.to + c.cost-size.result) c.args.used p es) (sym spots)
      (subst (λ (n : ℕ). IsKept (copy_within c.args.bytes.now.items c.args.from (c.args.from + cost f.v f.x.shape) c.args.to) (c.args.from + n) (c.args.to + n) c.args.used (set c.args.places.now.items (number_of f.v) (c.args.to + 1)) es) (sym size)
      (kept-common c.args.bytes.now.items c.args.from c.args.to c.args.used c.args.places.now.items _ h c.requires.more common below)));
  further = omega (arith, c.cost-size.ensures.cost, overhead-some c.name_at-v.result);
  within =
      let h = c.requires.kept.1 in
      omega (arith, size-is c.args.bytes.now.items c.args.from c.args.to c.args.used c.args.places.now.items _ h c.requires.more c.name_at-v.result c.shape_at.result c.deref.result.now c.deref-2.result.now c.deref.ensures.value c.deref-2.ensures.value c.name_at-v.ensures c.shape_at.ensures, c.cost-size.ensures.cost, room-here c.args.bytes.now.items c.args.from c.args.to c.args.used c.args.places.now.items _ h c.requires.more);
  size =
      let h = c.requires.kept.1 in
      let size = c.cost-size.ensures.cost ∙ size-is c.args.bytes.now.items c.args.from c.args.to c.args.used c.args.places.now.items _ h c.requires.more c.name_at-v.result c.shape_at.result c.deref.result.now c.deref-2.result.now c.deref.ensures.value c.deref-2.ensures.value c.name_at-v.ensures c.shape_at.ensures in
      ap (λ (b : List ℕ). length b) c.close_up.ensures
      ∙ length-moved c.args.bytes.now.items c.args.from c.cost-size.result c.args.to (omega (arith, h.from_is)) (omega (arith, size, room-here c.args.bytes.now.items c.args.from c.args.to c.args.used c.args.places.now.items _ h c.requires.more, used-low c.args.bytes.now.items c.args.from c.args.to c.args.used c.args.places.now.items _ h c.requires.more));
}

pub returns-else-common_at : goal.returns-else-common_at
returns-else-common_at c = record {
  kept = λ es h.
      let f = first c.args.bytes.now.items c.args.from c.args.to c.args.used c.args.places.now.items _ h c.requires.more in
      let is = name-read c.args.bytes.now.items c.args.from c.args.to c.args.used c.args.places.now.items _ h c.requires.more c.name_at-v.result c.deref.result.now c.deref.ensures.value c.name_at-v.ensures in
      let size = c.cost-size.ensures.cost ∙ size-is c.args.bytes.now.items c.args.from c.args.to c.args.used c.args.places.now.items _ h c.requires.more c.name_at-v.result c.shape_at.result c.deref.result.now c.deref-2.result.now c.deref.ensures.value c.deref-2.ensures.value c.name_at-v.ensures c.shape_at.ensures in
      let other = sym (common-is c.args.bytes.now.items c.args.from c.args.to c.args.used c.args.places.now.items _ h c.requires.more) ∙ sym (ap (λ (b : List ℕ). read_common (drop c.args.from b)) c.deref-3.ensures.value) ∙ sym c.common_at.ensures ∙ c.if-common_at.false in
      let number = c.number_of-else-common_at.ensures.number ∙ ap number_of is in
      let below : number_of f.v < 1144 = omega (arith, number, c.number_of-else-common_at.ensures.below) in
      let spots = c.set_place-else-common_at.ensures ∙ ap (λ (n : ℕ). set c.args.places.now.items n 0) number in
      subst (λ (p : List ℕ). IsKept c.args.bytes.now.items (c.args.from + c.cost-size.result) c.args.to c.args.used p es) (sym spots)
      (subst (λ (n : ℕ). IsKept c.args.bytes.now.items (c.args.from + n) c.args.to c.args.used (set c.args.places.now.items (number_of f.v) 0) es) (sym size)
      (kept-other c.args.bytes.now.items c.args.from c.args.to c.args.used c.args.places.now.items _ h c.requires.more other below));
  further = omega (arith, c.cost-size.ensures.cost, overhead-some c.name_at-v.result);
  within =
      let h = c.requires.kept.1 in
      omega (arith, size-is c.args.bytes.now.items c.args.from c.args.to c.args.used c.args.places.now.items _ h c.requires.more c.name_at-v.result c.shape_at.result c.deref.result.now c.deref-2.result.now c.deref.ensures.value c.deref-2.ensures.value c.name_at-v.ensures c.shape_at.ensures, c.cost-size.ensures.cost, room-here c.args.bytes.now.items c.args.from c.args.to c.args.used c.args.places.now.items _ h c.requires.more);
  size = refl;
}
