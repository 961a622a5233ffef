use Rattle.std.proofs.Common.{sym, arith}
use Rattle.b2_raw.proofs.Written.{spare-ends}
use Rattle.b2_raw.proofs.writing.put_sector.Goals as goal

pub overflow_add-result : goal.overflow_add-result
overflow_add-result c =
    let ends = spare-ends c.args.p.now c.args.at 1 (sym c.if-not-are_spare.ensures.value) c.if-not-are_spare.ensures.good in omega (arith, ends)
