use Rattle.std.proofs.Common.{arith}
use Rattle.b2_platter.specs.Layout.{layout_of}
use Rattle.b2_platter.proofs.Goodness.{sectors_of_good, least_of_good}
use Rattle.b2_platter.proofs.platter.Platter.sectors.Goals as goal

pub total-requires : goal.total-requires
total-requires c =
    let least = least_of_good (layout_of c.args.self.now) c.args.self.now c.image.ensures.good in
    rw c.image.ensures.value (omega (arith, least))

pub returns-clause-whole : goal.returns-clause-whole
returns-clause-whole c =
    let whole = sectors_of_good (layout_of c.args.self.now) c.args.self.now c.image.ensures.good in
    rw (c.total.ensures, c.layout.ensures, c.image.ensures.value) whole
