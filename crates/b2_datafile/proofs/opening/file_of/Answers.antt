use Rattle.std.proofs.Common.{sym}
use Rattle.b2_catalog.proofs.DataSectors.{in-image}
use Rattle.b2_datafile.proofs.opening.file_of.Goals as goal

pub returns-then-e-s-clause-order : goal.returns-then-e-s-clause-order
returns-then-e-s-clause-order c = (in-image c.args.p.now c.args.s.now.name c.in_ok-e.e c.image-image.ensures.good (sym c.in_ok-e.ensures.entry)).order

pub returns-then-e-s-clause-within : goal.returns-then-e-s-clause-within
returns-then-e-s-clause-within c = (in-image c.args.p.now c.args.s.now.name c.in_ok-e.e c.image-image.ensures.good (sym c.in_ok-e.ensures.entry)).within

pub returns-then-e-s-clause-used : goal.returns-then-e-s-clause-used
returns-then-e-s-clause-used c = (in-image c.args.p.now c.args.s.now.name c.in_ok-e.e c.image-image.ensures.good (sym c.in_ok-e.ensures.entry)).used

pub returns-then-e-s-clause-few : goal.returns-then-e-s-clause-few
returns-then-e-s-clause-few c = (in-image c.args.p.now c.args.s.now.name c.in_ok-e.e c.image-image.ensures.good (sym c.in_ok-e.ensures.entry)).few
