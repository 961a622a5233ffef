use Rattle.std.proofs.Common.{sym, ◌^◌}
use Rattle.b2_dec.specs.declared.number.Mode.TheVariants.{Cut}
use Rattle.b2_dec.specs.Number.{value}
use Rattle.b2_dec.specs.Arithmetic.{floored}
use Rattle.b2_dec.proofs.Wholes.{rounded-whole_ℤ}
use Rattle.b2_dec.proofs.fractions.int.Goals as goal

pub returns-clause-number : goal.returns-clause-number
returns-clause-number c =
    sym (rounded-whole_ℤ Cut c.downwards-whole.result (floored (value c.args.a) (10 ^ 111)) c.is_zero.ensures.spelling c.downwards-whole.ensures)
