use Rattle.std.proofs.Common.{arith}
use Rattle.b2_platter.specs.Layout.{layout_of}
use Rattle.b2_platter.proofs.Goodness.{least_of_good}
use Rattle.b2_platter.proofs.platter.Platter.catalogue_end.Goals as goal

pub catalogue_end-requires : goal.catalogue_end-requires
catalogue_end-requires c =
    let least = least_of_good (layout_of c.args.self.now) c.args.self.now c.image.ensures.good in
    rw c.image.ensures.value (omega (arith, least))
