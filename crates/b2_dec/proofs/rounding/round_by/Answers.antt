use Rattle.std.proofs.Common.{◌+◌, lt_of_lt_of_le, arith}
use Rattle.b2_dec.proofs.TenLemmas.{ten_le}
use Rattle.b2_dec.proofs.Quotients.{whole_by-least, whole_by-most}
use Rattle.b2_dec.proofs.Rounds.{rnd-by}
use Rattle.b2_dec.proofs.rounding.round_by.Goals as goal

pub whole_by-requires-clause-fits : goal.whole_by-requires-clause-fits
whole_by-requires-clause-fits c = lt_of_lt_of_le c.requires.most (ten_le (13 + c.args.dropped) 16 (omega arith))

pub after_carry-requires-clause-least : goal.after_carry-requires-clause-least
after_carry-requires-clause-least c =
    rw c.whole_by.ensures (whole_by-least c.args.mode c.args.m c.args.dropped c.requires.some c.requires.least)

pub after_carry-requires-clause-digits : goal.after_carry-requires-clause-digits
after_carry-requires-clause-digits c =
    rw c.whole_by.ensures (whole_by-most c.args.mode c.args.m c.args.dropped c.requires.some c.requires.most)

pub returns : goal.returns
returns c n d some whole =
    rw (c.after_carry.ensures, c.whole_by.ensures) (rnd-by c.args.mode c.args.neg c.args.m c.args.at n d c.args.dropped
    c.requires.some c.requires.least c.requires.most some whole)
