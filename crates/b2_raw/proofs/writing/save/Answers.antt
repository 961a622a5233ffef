use Rattle.std.proofs.Common.{sym, arith}
use Rattle.b2_raw.proofs.Written.{spare-ends}
use Rattle.b2_raw.proofs.writing.save.Goals as goal

pub put_record-requires-clause-ends : goal.put_record-requires-clause-ends
put_record-requires-clause-ends c = spare-ends c.args.p.now c.args.at c.in-Some.count (sym c.if-not-are_spare.ensures.value) c.if-not-are_spare.ensures.good

pub overflow_add-result : goal.overflow_add-result
overflow_add-result c =
    let ends = spare-ends c.args.p.now c.args.at c.in-Some.count (sym c.if-not-are_spare.ensures.value) c.if-not-are_spare.ensures.good in omega (arith, ends)
