use Rattle.std.proofs.Common.{sym, arith}
use Rattle.b2_catalog.proofs.DataSectors.{in-image}
use Rattle.b2_progfile.proofs.saving.is_small.Goals as goal

pub overflow_sub-result : goal.overflow_sub-result
overflow_sub-result c =
    let inside = in-image c.args.p.now c.args.old c.in-Some.e c.image-image.ensures.good (sym c.in-Some.ensures.entry) in
    omega (arith, inside.order)
