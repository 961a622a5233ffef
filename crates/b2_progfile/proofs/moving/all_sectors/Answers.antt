use Rattle.std.proofs.Common.{arith}
use Rattle.b2_platter.proofs.Layouts.{few_sectors}
use Rattle.b2_catalog.proofs.DataSectors.{in-image}
use Rattle.b2_progfile.proofs.moving.all_sectors.Goals as goal

pub overflow_sub-count : goal.overflow_sub-count
overflow_sub-count c = let inside = in-image c.args.from.now c.args.e.now.name c.args.e.now c.image-source.ensures.good c.requires in omega (arith, inside.order)

pub overflow_add-result : goal.overflow_add-result
overflow_add-result c =
    let inside = in-image c.args.from.now c.args.e.now.name c.args.e.now c.image-source.ensures.good c.requires in
    let most = few_sectors c.args.from.now c.image-source.ensures.good in
    omega (arith, inside.order, inside.within, most)

pub returns-clause-some : goal.returns-clause-some
returns-clause-some c = let inside = in-image c.args.from.now c.args.e.now.name c.args.e.now c.image-source.ensures.good c.requires in omega (arith, inside.order)

pub returns-clause-few : goal.returns-clause-few
returns-clause-few c =
    let inside = in-image c.args.from.now c.args.e.now.name c.args.e.now c.image-source.ensures.good c.requires in
    let most = few_sectors c.args.from.now c.image-source.ensures.good in
    omega (arith, inside.order, inside.within, most)
