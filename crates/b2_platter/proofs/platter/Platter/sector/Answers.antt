use Rattle.std.proofs.Common.{◌<◌, arith}
use Rattle.b2_platter.specs.Layout.{layout_of}
use Rattle.b2_platter.specs.Image.{total_of}
use Rattle.b2_platter.proofs.Goodness.{sectors_of_good}
use Rattle.b2_platter.proofs.platter.Platter.sector.Goals as goal

pub sector-requires : goal.sector-requires
sector-requires c =
    let whole = sectors_of_good (layout_of c.self.inside.bytes.items) c.self.inside.bytes.items c.self.invariant in
    let below : c.args.n < total_of (layout_of c.self.inside.bytes.items) c.self.inside.bytes.items = rw c.self.view_is c.requires in
    rw c.deref.ensures.value (omega (arith, whole, below))
