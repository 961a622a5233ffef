use Rattle.std.proofs.Common.{◌≡◌, ◌+◌, ◌≤◌, arith}
use Rattle.b2_dec.proofs.TenLemmas.{ten_pos}
use Rattle.b2_pack.proofs.DigitLemmas.{digit-here, digit-left, digit-right}
use Rattle.b2_pack.proofs.rows.cut_digit.Goals as goal

pub returns-then-down-up-clause-digit : goal.returns-then-down-up-clause-digit
returns-then-down-up-clause-digit c = digit-right c.args.x c.args.decimals c.args.k (omega arith)

pub returns-then-left-gt12-clause-digit : goal.returns-then-left-gt12-clause-digit
returns-then-left-gt12-clause-digit c = digit-left c.args.x c.args.decimals c.args.k (omega arith) (omega arith) (omega arith)

pub nonzero_div-result : goal.nonzero_div-result
nonzero_div-result c = rw c.pow.ensures (ten_pos _)

pub returns-clause-digit : goal.returns-clause-digit
returns-clause-digit c =
    let place : c.args.x.place ≡ c.place.result = omega arith in
    let near : c.args.x.place + c.args.decimals ≤ 111 + c.args.k = omega arith in
    rw (c.pow.ensures, c.coefficient-coef.ensures.value, c.place.ensures.value) (digit-here c.args.x c.args.decimals c.args.k near)
