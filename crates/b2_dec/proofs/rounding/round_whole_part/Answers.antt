use Rattle.std.proofs.Common.{arith}
use Rattle.b2_dec.proofs.Rounds.{rnd-from_digits, dropped-some, kept-least, kept-most}
use Rattle.b2_dec.proofs.rounding.round_whole_part.Goals as goal

pub overflow_sub-dropped : goal.overflow_sub-dropped
overflow_sub-dropped c = omega (arith, dropped-some c.args.m c.ilog10-dropped.result c.requires.digits c.ilog10-dropped.ensures.next_power_gt)

pub wide_whole_by-coef-requires-clause-some : goal.wide_whole_by-coef-requires-clause-some
wide_whole_by-coef-requires-clause-some c = dropped-some c.args.m _ c.requires.digits c.ilog10-dropped.ensures.next_power_gt

pub overflow_cast-coef : goal.overflow_cast-coef
overflow_cast-coef c =
    let most = kept-most c.args.mode c.args.m _ c.requires.digits c.ilog10-dropped.ensures.next_power_gt in
    rw c.wide_whole_by-coef.ensures (search (arith, most))

pub after_carry-requires-clause-least : goal.after_carry-requires-clause-least
after_carry-requires-clause-least c =
    rw c.wide_whole_by-coef.ensures (kept-least c.args.mode c.args.m _ c.requires.digits c.ilog10-dropped.ensures.power_le c.ilog10-dropped.ensures.next_power_gt)

pub after_carry-requires-clause-digits : goal.after_carry-requires-clause-digits
after_carry-requires-clause-digits c =
    rw c.wide_whole_by-coef.ensures (kept-most c.args.mode c.args.m _ c.requires.digits c.ilog10-dropped.ensures.next_power_gt)

pub returns : goal.returns
returns c n d some whole =
    rw (c.result-2.ensures, c.after_carry.ensures, c.wide_whole_by-coef.ensures) (rnd-from_digits c.args.mode c.args.neg c.args.m c.args.at n d _ c.requires.digits
    c.ilog10-dropped.ensures.power_le c.ilog10-dropped.ensures.next_power_gt some whole)
