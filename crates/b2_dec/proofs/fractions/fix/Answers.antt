use Rattle.std.proofs.Common.{sym, ◌/◌, ◌^◌}
use Rattle.b2_dec.specs.declared.number.Mode.TheVariants.{Cut}
use Rattle.b2_dec.specs.Number.{size}
use Rattle.b2_dec.proofs.Wholes.{rnd-whole}
use Rattle.b2_dec.proofs.fractions.fix.Goals as goal

pub returns-clause-number : goal.returns-clause-number
returns-clause-number c =
    sym (rnd-whole Cut c.towards_zero-whole.result c.args.a.neg (size c.args.a / 10 ^ 111) c.is_zero.ensures.spelling c.towards_zero-whole.ensures)
