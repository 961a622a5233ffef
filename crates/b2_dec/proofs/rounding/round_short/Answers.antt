use Rattle.std.proofs.Common.{sym, ◌∙◌, arith}
use Rattle.b2_dec.proofs.Exact.{exact_is_whole, rnd-digits}
use Rattle.b2_dec.proofs.rounding.round_short.Goals as goal

pub returns-then-m-ge-COEFFICIENT_LIMIT : goal.returns-then-m-ge-COEFFICIENT_LIMIT
returns-then-m-ge-COEFFICIENT_LIMIT c n d some e = c.round_part.ensures n d some (exact_is_whole c.args.m c.args.at n d some e)

pub returns-then-m-ge1000000000000 : goal.returns-then-m-ge1000000000000
returns-then-m-ge1000000000000 c n d some e =
    c.in_range.ensures
    ∙ sym (rnd-digits c.args.mode c.args.neg c.args.m c.args.at n d c.if-m-ge1000000000000.true c.if-m-ge-COEFFICIENT_LIMIT.false (omega (arith, c.requires.low)) some e)

pub returns : goal.returns
returns c n d some e = c.filled.ensures c.args.mode n d some e
