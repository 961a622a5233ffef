use Rattle.std.proofs.Common.{ap, pos, false, arith}
use Rattle.b2_dec.proofs.Exact.{whole-rnd, whole-value, rnd-none, few_digits, filled-least, filled-most}
use Rattle.b2_dec.proofs.number.Dec.of_whole.Goals as goal

pub returns-then-n-eq0-clause-exact : goal.returns-then-n-eq0-clause-exact
returns-then-n-eq0-clause-exact c mode = rw c.zero.ensures (rnd-none mode false c.args.n 1 c.if-n-eq0.true)

pub overflow_sub-missing : goal.overflow_sub-missing
overflow_sub-missing c = few_digits c.args.n _ c.requires c.ilog10-missing.ensures.power_le

pub ending_at-requires-clause-least : goal.ending_at-requires-clause-least
ending_at-requires-clause-least c =
    rw c.ten_to.ensures (filled-least c.args.n _ (few_digits c.args.n _ c.requires c.ilog10-missing.ensures.power_le) c.ilog10-missing.ensures.power_le)

pub ending_at-requires-clause-digits : goal.ending_at-requires-clause-digits
ending_at-requires-clause-digits c =
    rw c.ten_to.ensures (filled-most c.args.n _ (few_digits c.args.n _ c.requires c.ilog10-missing.ensures.power_le) c.ilog10-missing.ensures.next_power_gt)

pub overflow_mul-n : goal.overflow_mul-n
overflow_mul-n c =
    let most = filled-most c.args.n _ (few_digits c.args.n _ c.requires c.ilog10-missing.ensures.power_le) c.ilog10-missing.ensures.next_power_gt in
    rw c.ten_to.ensures (search (arith, most))

pub returns-clause-value : goal.returns-clause-value
returns-clause-value c =
    rw (c.ending_at.ensures, c.ten_to.ensures) (ap pos (whole-value c.args.n _ (few_digits c.args.n _ c.requires c.ilog10-missing.ensures.power_le)))

pub returns-clause-exact : goal.returns-clause-exact
returns-clause-exact c mode =
    rw (c.ending_at.ensures, c.ten_to.ensures) (whole-rnd mode c.args.n _ (few_digits c.args.n _ c.requires c.ilog10-missing.ensures.power_le)
    c.ilog10-missing.ensures.power_le c.ilog10-missing.ensures.next_power_gt)
