use Rattle.std.proofs.Common.{sym, arith}
use Rattle.b2_dec.proofs.Exact.{none_from, rnd-none, few_digits, filled-least, filled-most, filled-rnd}
use Rattle.b2_dec.proofs.rounding.filled.Goals as goal

pub returns-then-m-eq0 : goal.returns-then-m-eq0
returns-then-m-eq0 c mode n d some e = rw (c.number.ensures, c.zero.ensures) (sym (rnd-none mode c.args.neg n d (none_from c.args.m _ n c.if-m-eq0.true e)))

pub overflow_sub-missing : goal.overflow_sub-missing
overflow_sub-missing c = few_digits c.args.m c.ilog10-missing.result (omega arith) c.ilog10-missing.ensures.power_le

pub overflow_mul-m : goal.overflow_mul-m
overflow_mul-m c =
    let small = few_digits c.args.m c.ilog10-missing.result (omega arith) c.ilog10-missing.ensures.power_le in
    let most = filled-most c.args.m c.ilog10-missing.result small c.ilog10-missing.ensures.next_power_gt in
    rw c.ten_to.ensures (search (arith, most))

pub in_range-requires-clause-least : goal.in_range-requires-clause-least
in_range-requires-clause-least c =
    let small = few_digits c.args.m c.ilog10-missing.result (omega arith) c.ilog10-missing.ensures.power_le in
    rw c.ten_to.ensures (filled-least c.args.m c.ilog10-missing.result small c.ilog10-missing.ensures.power_le)

pub in_range-requires-clause-digits : goal.in_range-requires-clause-digits
in_range-requires-clause-digits c =
    let small = few_digits c.args.m c.ilog10-missing.result (omega arith) c.ilog10-missing.ensures.power_le in
    rw c.ten_to.ensures (filled-most c.args.m c.ilog10-missing.result small c.ilog10-missing.ensures.next_power_gt)

pub returns : goal.returns
returns c mode n d some e =
    let small = few_digits c.args.m c.ilog10-missing.result (omega arith) c.ilog10-missing.ensures.power_le in
    rw (c.in_range.ensures, c.ten_to.ensures) (filled-rnd mode c.args.neg c.args.m c.ilog10-missing.result c.args.at n d small
    c.ilog10-missing.ensures.power_le c.ilog10-missing.ensures.next_power_gt c.requires.low some e)
