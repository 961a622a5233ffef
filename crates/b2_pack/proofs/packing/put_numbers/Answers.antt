use Rattle.std.proofs.Common.{sym, ap, ◌∙◌}
use Rattle.b2_pack.proofs.PackingLemmas.{with_numbers, none_left, numbers-front}
use Rattle.b2_pack.proofs.packing.put_numbers.Goals as goal

pub returns : goal.returns
returns c =
    sym (ap (λ left. with_numbers c.args.row c.loop-x.at left c.loop-x.to) (none_left c.args.xs.now c.loop-x.x-index c.loop-x-test.false))
    ∙ c.loop-x.invariant.bytes ∙ numbers-front c.args.row c.args.xs.now c.args.to.now c.requires
