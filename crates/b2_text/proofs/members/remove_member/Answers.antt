use Rattle.std.proofs.Common.{ℕ, ◌∙◌, ap, sym, subst, add-one}
use Rattle.std.specs.List.{remove_range}
use Rattle.b2_text.specs.Members.{IsRankOf}
use Rattle.b2_text.proofs.Ranked.{absent, taken}
use Rattle.b2_text.proofs.members.remove_member.Goals as goal

pub returns-then-number_stands_at-clause-items : goal.returns-then-number_stands_at-clause-items
returns-then-number_stands_at-clause-items c =
    let rank = subst (λ (n : ℕ). IsRankOf n c.args.numbers.now.items c.rank-i.result) c.from.ensures c.rank-i.ensures in
    c.take_out.ensures.items
    ∙ ap (λ (j : ℕ). remove_range c.args.numbers.now.items c.rank-i.result j) (add-one c.rank-i.result)
    ∙ taken c.args.n c.rank-i.result c.args.numbers.now.items rank c.requires (sym c.number_stands_at.ensures ∙ c.if-number_stands_at.true)

pub returns-else-number_stands_at-clause-items : goal.returns-else-number_stands_at-clause-items
returns-else-number_stands_at-clause-items c =
    let rank = subst (λ (n : ℕ). IsRankOf n c.args.numbers.now.items c.rank-i.result) c.from.ensures c.rank-i.ensures in
    absent c.args.n c.rank-i.result c.args.numbers.now.items rank c.requires (sym c.number_stands_at.ensures ∙ c.if-number_stands_at.false)
