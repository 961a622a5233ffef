use Rattle.std.proofs.Common.{arith, refl, ℕ}
use Rattle.b2_platter.specs.Image.{row}
use Rattle.b2_catalog.specs.Ways.{has_name, slot_in}
use Rattle.b2_catalog.proofs.Finding.{find_more}
use Rattle.b2_catalog.proofs.lookup.slot_in.Goals as goal

pub loop-k-preserved : goal.loop-k-preserved
loop-k-preserved c =
    find_more (λ (k : ℕ). has_name c.args.name.now (row c.args.bytes.now k)) c.loop-k.k _ _ (omega arith) c.loop-k.invariant (cc)

pub loop-k-init : goal.loop-k-init
unfolding slot_in
loop-k-init c = rw c.first_slot-k.ensures.value refl
