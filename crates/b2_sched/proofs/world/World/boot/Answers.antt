use Rattle.std.proofs.Common.{◌≡◌, ℕ, List, map, sym, ap, subst, ◌∙◌}
use Rattle.b2_access.specs.Store.{StoreState}
use Rattle.b2_access.specs.declared.private.Private.{Private}
use Rattle.b2_audit.specs.Marks.{Marks}
use Rattle.b2_store.specs.Start.{Areas, text_row}
use Rattle.b2_sched.specs.Presence.{ArePresent}
use Rattle.b2_sched.specs.Start.{areas_of, private_row}
use Rattle.b2_sched.proofs.Present.{booted_present}
use Rattle.b2_sched.proofs.world.World.boot.Goals as goal

pub invariant_of-result : goal.invariant_of-result
invariant_of-result g c =
    let partitions = c.deref-2.result.now in
    let areas : map areas_of partitions ≡ c.in_ok-areas_of.field-0.items =
    sym (c.in_ok-areas_of.ensures ∙ ap (map areas_of) (c.deref-5.ensures.value ∙ sym c.deref-2.ensures.value)) in
    let s = g.S.Shared.store (g.S.Shared.meaning c.in_ok-stores.stores) in
    let texts = ap (λ (areas : List Areas). map text_row areas) areas ∙ sym (ap (λ (s : StoreState). s.texts) c.in_ok-stores.ensures.at_start) in
    let here = booted_present partitions s c.in_ok-privates.ensures.numbered texts (ap (λ (s : StoreState). s.names) c.in_ok-stores.ensures.at_start) in
    let marks = subst (λ (m : Marks). ArePresent (map private_row partitions) s m) (sym c.new-seen.ensures) here in
    subst (λ (rows : List (ℕ × Private)). ArePresent rows s c.new-seen.result) (sym c.in_ok-privates.ensures.started) marks
