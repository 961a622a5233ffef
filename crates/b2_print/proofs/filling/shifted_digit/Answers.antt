use Rattle.std.proofs.Common.{◌-◌, ◌+◌, ◌%◌, ap, sym, arith}
use Rattle.b2_print.proofs.DigitLemmas.{ten_pos, shifted, digit-left, digit-right}
use Rattle.b2_print.proofs.filling.shifted_digit.Goals as goal

pub returns-then-down-up : goal.returns-then-down-up
returns-then-down-up c = ap (λ t. 48 + t) (sym (digit-right c.args.coef c.args.up c.args.down c.if-down-up.true))

pub returns-then-left-gt12 : goal.returns-then-left-gt12
returns-then-left-gt12 c = ap (λ t. 48 + t) (sym (digit-left c.args.coef c.args.up c.args.down c.requires (omega arith) (omega arith)))

pub nonzero_div-result : goal.nonzero_div-result
nonzero_div-result c = rw c.pow-unit.ensures (ten_pos (c.args.down - c.args.up))

pub returns : goal.returns
returns c = rw c.pow-unit.ensures (ap (λ t. 48 + t % 10) (sym (shifted c.args.coef c.args.up c.args.down (omega arith))))
