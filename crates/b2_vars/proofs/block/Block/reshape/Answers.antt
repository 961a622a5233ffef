use Rattle.std.proofs.Common.{◌≡◌, ◌-◌, ◌+◌, ◌∙◌, ap, ap₂, Bool, ℕ, List, length, drop, arith}
use Rattle.std.specs.List.{copy_within}
use Rattle.b2_vars.specs.Shapes.{cost, size_of}
use Rattle.b2_vars.specs.Variables.{overwritten}
use Rattle.b2_vars.specs.Block.{head_bytes, read_common}
use Rattle.b2_vars.specs.Tables.{table_of, shape_at, variable_at}
use Rattle.b2_vars.proofs.Heads.{overhead-some}
use Rattle.b2_vars.proofs.Overwriting.{length-overwritten}
use Rattle.b2_vars.proofs.Laying.{shows-laid, shows-state}
use Rattle.b2_vars.proofs.Steps.{place-small, head-room, cost-room, used-room, shape-read, common-is}
use Rattle.b2_vars.proofs.Changes.{reshape-step}
use Rattle.b2_vars.proofs.block.Block.reshape.Goals as goal

pub shape_at-old-requires : goal.shape_at-old-requires
shape_at-old-requires c = omega (arith, ap (λ (b : List ℕ). length b) c.deref.ensures.value, head-room c.self.inside.bytes.items c.self.inside.used c.self.inside.places.items c.self.invariant c.args.self.now c.self.view_is c.args.v c.args.place c.requires.at)

pub common_at-common-requires : goal.common_at-common-requires
common_at-common-requires c = omega (arith, ap (λ (b : List ℕ). length b) c.deref-2.ensures.value, head-room c.self.inside.bytes.items c.self.inside.used c.self.inside.places.items c.self.invariant c.args.self.now c.self.view_is c.args.v c.args.place c.requires.at, overhead-some c.args.v)

pub overflow_sub-gap : goal.overflow_sub-gap
overflow_sub-gap c = omega (arith, c.requires.room, c.size_of-old_size.ensures.size, c.size_of-new_size.ensures.size, ap (size_of c.args.v) (shape-read c.self.inside.bytes.items c.self.inside.used c.self.inside.places.items c.self.invariant c.args.self.now c.self.view_is c.args.v c.args.place c.requires.at c.shape_at-old.result c.deref.result.now c.deref.ensures.value c.shape_at-old.ensures))

pub overflow_add-old_end : goal.overflow_add-old_end
overflow_add-old_end c = omega (arith, c.cost.ensures.cost, ap (cost c.args.v) (shape-read c.self.inside.bytes.items c.self.inside.used c.self.inside.places.items c.self.invariant c.args.self.now c.self.view_is c.args.v c.args.place c.requires.at c.shape_at-old.result c.deref.result.now c.deref.ensures.value c.shape_at-old.ensures), cost-room c.self.inside.bytes.items c.self.inside.used c.self.inside.places.items c.self.invariant c.args.self.now c.self.view_is c.args.v c.args.place c.requires.at, used-room c.self.inside.bytes.items c.self.inside.used c.self.inside.places.items c.self.invariant c.args.self.now c.self.view_is, c.self.inside.bytes.small, c.self.inside.bytes.ok.0, c.self.inside.bytes.ok.1)

pub overflow_add-new_end : goal.overflow_add-new_end
overflow_add-new_end c = omega (arith, c.cost-2.ensures.cost, c.requires.room, cost-room c.self.inside.bytes.items c.self.inside.used c.self.inside.places.items c.self.invariant c.args.self.now c.self.view_is c.args.v c.args.place c.requires.at, used-room c.self.inside.bytes.items c.self.inside.used c.self.inside.places.items c.self.invariant c.args.self.now c.self.view_is, c.self.inside.bytes.small, c.self.inside.bytes.ok.0, c.self.inside.bytes.ok.1)

pub overflow_cast-place : goal.overflow_cast-place
overflow_cast-place c = omega (arith, place-small c.self.inside.bytes.items c.self.inside.used c.self.inside.places.items c.self.invariant c.args.self.now c.self.view_is c.args.v c.args.place c.requires.at)

pub overflow_cast-gap : goal.overflow_cast-gap
overflow_cast-gap c = omega (arith, c.size_of-old_size.ensures.size, ap (size_of c.args.v) (shape-read c.self.inside.bytes.items c.self.inside.used c.self.inside.places.items c.self.invariant c.args.self.now c.self.view_is c.args.v c.args.place c.requires.at c.shape_at-old.result c.deref.result.now c.deref.ensures.value c.shape_at-old.ensures), cost-room c.self.inside.bytes.items c.self.inside.used c.self.inside.places.items c.self.invariant c.args.self.now c.self.view_is c.args.v c.args.place c.requires.at, used-room c.self.inside.bytes.items c.self.inside.used c.self.inside.places.items c.self.invariant c.args.self.now c.self.view_is, c.self.invariant.short)

pub write_head-requires : goal.write_head-requires
write_head-requires c = head-room c.self.inside.bytes.items c.self.inside.used c.self.inside.places.items c.self.invariant c.args.self.now c.self.view_is c.args.v c.args.place c.requires.at

pub close_up-requires-clause-order : goal.close_up-requires-clause-order
close_up-requires-clause-order c = omega (arith, c.cost.ensures.cost, c.cost-2.ensures.cost, ap (cost c.args.v) (shape-read c.self.inside.bytes.items c.self.inside.used c.self.inside.places.items c.self.invariant c.args.self.now c.self.view_is c.args.v c.args.place c.requires.at c.shape_at-old.result c.deref.result.now c.deref.ensures.value c.shape_at-old.ensures), c.requires.room)

pub close_up-requires-clause-span : goal.close_up-requires-clause-span
close_up-requires-clause-span c = omega (arith, c.cost.ensures.cost, ap (cost c.args.v) (shape-read c.self.inside.bytes.items c.self.inside.used c.self.inside.places.items c.self.invariant c.args.self.now c.self.view_is c.args.v c.args.place c.requires.at c.shape_at-old.result c.deref.result.now c.deref.ensures.value c.shape_at-old.ensures), cost-room c.self.inside.bytes.items c.self.inside.used c.self.inside.places.items c.self.invariant c.args.self.now c.self.view_is c.args.v c.args.place c.requires.at)

pub close_up-requires-clause-room : goal.close_up-requires-clause-room
close_up-requires-clause-room c = omega (arith, ap (λ (b : List ℕ). length b) c.write_head.ensures, length-overwritten (c.args.place - 1) (head_bytes c.args.v c.args.shape c.common_at-common.result) c.self.inside.bytes.items, used-room c.self.inside.bytes.items c.self.inside.used c.self.inside.places.items c.self.invariant c.args.self.now c.self.view_is)

pub overflow_sub-self : goal.overflow_sub-self
overflow_sub-self c = omega (arith, c.size_of-old_size.ensures.size, ap (size_of c.args.v) (shape-read c.self.inside.bytes.items c.self.inside.used c.self.inside.places.items c.self.invariant c.args.self.now c.self.view_is c.args.v c.args.place c.requires.at c.shape_at-old.result c.deref.result.now c.deref.ensures.value c.shape_at-old.ensures), cost-room c.self.inside.bytes.items c.self.inside.used c.self.inside.places.items c.self.invariant c.args.self.now c.self.view_is c.args.v c.args.place c.requires.at)

pub invariant_of-self : goal.invariant_of-self
invariant_of-self c =
    let v = c.args.v in
    let s = c.args.shape in
    let at = c.args.place - 1 in
    let t = table_of c.args.self.now.entries in
    let gap = c.size_of-old_size.result - c.size_of-new_size.result in
    let common = c.common_at-common.ensures ∙ ap (λ (b : List ℕ). read_common (drop at b)) c.deref-2.ensures.value ∙ common-is c.self.inside.bytes.items c.self.inside.used c.self.inside.places.items c.self.invariant c.args.self.now c.self.view_is c.args.v c.args.place c.requires.at in
    let headed = c.write_head.ensures ∙ ap (λ (k : Bool). overwritten at (head_bytes v s k) c.self.inside.bytes.items) common in
    let old_end = ap (λ (n : ℕ). at + n) (c.cost.ensures.cost ∙ ap (cost v) (shape-read c.self.inside.bytes.items c.self.inside.used c.self.inside.places.items c.self.invariant c.args.self.now c.self.view_is c.args.v c.args.place c.requires.at c.shape_at-old.result c.deref.result.now c.deref.ensures.value c.shape_at-old.ensures)) in
    let new_end = ap (λ (n : ℕ). at + n) c.cost-2.ensures.cost in
    let gap_is : gap + size_of v s ≡ size_of v (shape_at v t) = omega (arith, c.requires.room, c.size_of-old_size.ensures.size, c.size_of-new_size.ensures.size, ap (size_of v) (shape-read c.self.inside.bytes.items c.self.inside.used c.self.inside.places.items c.self.invariant c.args.self.now c.self.view_is c.args.v c.args.place c.requires.at c.shape_at-old.result c.deref.result.now c.deref.ensures.value c.shape_at-old.ensures)) in
    let bytes = c.close_up.ensures
    ∙ ap (λ (b : List ℕ). copy_within b (at + c.cost.result) c.self.inside.used (at + c.cost-2.result)) headed
    ∙ ap₂ (λ (m n : ℕ). copy_within (overwritten at (head_bytes v s (variable_at v t).common) c.self.inside.bytes.items) m c.self.inside.used n) old_end new_end in
    rw (bytes, c.lower.ensures) (shows-laid _ _ _ _ (reshape-step c.self.inside.bytes.items c.self.inside.used c.self.inside.places.items c.self.invariant c.args.self.now c.self.view_is c.args.v c.args.place c.requires.at s at gap c.requires.dimensions c.requires.value_length c.requires.room (λ i. at) gap_is))

pub returns : goal.returns
returns c =
    let v = c.args.v in
    let s = c.args.shape in
    let at = c.args.place - 1 in
    let t = table_of c.args.self.now.entries in
    let gap = c.size_of-old_size.result - c.size_of-new_size.result in
    let common = c.common_at-common.ensures ∙ ap (λ (b : List ℕ). read_common (drop at b)) c.deref-2.ensures.value ∙ common-is c.self.inside.bytes.items c.self.inside.used c.self.inside.places.items c.self.invariant c.args.self.now c.self.view_is c.args.v c.args.place c.requires.at in
    let headed = c.write_head.ensures ∙ ap (λ (k : Bool). overwritten at (head_bytes v s k) c.self.inside.bytes.items) common in
    let old_end = ap (λ (n : ℕ). at + n) (c.cost.ensures.cost ∙ ap (cost v) (shape-read c.self.inside.bytes.items c.self.inside.used c.self.inside.places.items c.self.invariant c.args.self.now c.self.view_is c.args.v c.args.place c.requires.at c.shape_at-old.result c.deref.result.now c.deref.ensures.value c.shape_at-old.ensures)) in
    let new_end = ap (λ (n : ℕ). at + n) c.cost-2.ensures.cost in
    let gap_is : gap + size_of v s ≡ size_of v (shape_at v t) = omega (arith, c.requires.room, c.size_of-old_size.ensures.size, c.size_of-new_size.ensures.size, ap (size_of v) (shape-read c.self.inside.bytes.items c.self.inside.used c.self.inside.places.items c.self.invariant c.args.self.now c.self.view_is c.args.v c.args.place c.requires.at c.shape_at-old.result c.deref.result.now c.deref.ensures.value c.shape_at-old.ensures)) in
    let bytes = c.close_up.ensures
    ∙ ap (λ (b : List ℕ). copy_within b (at + c.cost.result) c.self.inside.used (at + c.cost-2.result)) headed
    ∙ ap₂ (λ (m n : ℕ). copy_within (overwritten at (head_bytes v s (variable_at v t).common) c.self.inside.bytes.items) m c.self.inside.used n) old_end new_end in
    rw bytes (shows-state _ _ _ _ (reshape-step c.self.inside.bytes.items c.self.inside.used c.self.inside.places.items c.self.invariant c.args.self.now c.self.view_is c.args.v c.args.place c.requires.at s at gap c.requires.dimensions c.requires.value_length c.requires.room (λ i. at) gap_is))
