use Rattle.std.proofs.Common.{arith}
use Rattle.b2_catalog.proofs.DataSectors.{in-image}
use Rattle.b2_datafile.proofs.saving.save.Goals as goal

pub put_record-requires-clause-sectors : goal.put_record-requires-clause-sectors
put_record-requires-clause-sectors c = λ n low high.
    (in-image c.args.p.now c.in-Some.e.name c.in-Some.e c.file_of.ensures.good c.in-Some.ensures.named).own n (omega (arith, c.in-Some.ensures.start, c.requires.place, low)) (omega (arith, c.if-s-e.false, c.if-count-e.false, high))
