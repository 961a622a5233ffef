use Rattle.std.proofs.Common.{ℕ, ◌+◌, ◌∙◌, subst}
use Rattle.b2_text.specs.Members.{IsRankOf}
use Rattle.b2_text.proofs.Ranked.{range_taken}
use Rattle.b2_text.proofs.members.take_members.Goals as goal

pub returns-clause-items : goal.returns-clause-items
returns-clause-items c =
    let low = subst (λ (n : ℕ). IsRankOf n c.args.numbers.now.items c.rank-i.result) c.from.ensures c.rank-i.ensures in
    let high = subst (λ (n : ℕ). IsRankOf (n + 1) c.args.numbers.now.items c.rank-j.result) c.from-2.ensures c.rank-j.ensures in
    c.take_out.ensures.items
    ∙ range_taken c.args.from c.args.to c.rank-i.result c.rank-j.result c.args.numbers.now.items c.requires.order c.requires.ordered low high
