use Rattle.std.proofs.Common.{length, sym}
use Rattle.b2_pack.proofs.Standing.{packs}
use Rattle.b2_pack.proofs.PackingLemmas.{values-fit}
use Rattle.b2_pack.proofs.packing.fields.Goals as goal

pub returns-clause-stands : goal.returns-clause-stands
returns-clause-stands c =
    let a = c.args in
    rw c.put_values.ensures (packs a.spec.now a.values.now a.to.now (values-fit a.spec.now a.values.now (length a.to.now) (sym c.in_ok-check_fields.ensures)))
