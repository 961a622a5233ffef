use Rattle.std.proofs.Common.{sym, ◌∙◌, arith}
use Rattle.b2_pack.specs.Rows.{cut_size}
use Rattle.b2_pack.proofs.NibbleLemmas.{last_digits-at, last_digits-past}
use Rattle.b2_pack.proofs.rows.digit_at.Goals as goal

pub returns-then-place-row-clause-digit : goal.returns-then-place-row-clause-digit
returns-then-place-row-clause-digit c =
    c.cut_digit.ensures.digit ∙ sym (last_digits-at c.args.row.digits (cut_size c.args.row.decimals c.args.x) c.args.place (omega arith))

pub returns-else-place-row-clause-digit : goal.returns-else-place-row-clause-digit
returns-else-place-row-clause-digit c = sym (last_digits-past c.args.row.digits (cut_size c.args.row.decimals c.args.x) c.args.place (omega arith))
