use Rattle.std.proofs.Common.{◌≤◌, ◌/◌, ◌^◌, arith, div-le_self}
use Rattle.b2_dec.proofs.TenLemmas.{ten_pos, ten_le}
use Rattle.b2_dec.proofs.rounding.whole_by.Goals as goal

pub overflow_add-result : goal.overflow_add-result
overflow_add-result c =
    let less : 10 ^ c.args.dropped ≤ 10 ^ 3 = ten_le c.args.dropped 3 c.requires.few in
    let half : c.ten_to-unit.result / 2 ≤ c.ten_to-unit.result = div-le_self _ 2 in
    omega arith

pub nonzero_div-result-in-Round : goal.nonzero_div-result-in-Round
nonzero_div-result-in-Round c = rw c.ten_to-unit.ensures (ten_pos c.args.dropped)

pub nonzero_div-result-in-Cut : goal.nonzero_div-result-in-Cut
nonzero_div-result-in-Cut c = rw c.ten_to-unit.ensures (ten_pos c.args.dropped)
