use Rattle.std.proofs.Common.{ℕ, ◌∙◌, sym, subst, arith}
use Rattle.b2_text.specs.Members.{IsRankOf}
use Rattle.b2_text.proofs.Ranked.{longer, put_there, standing}
use Rattle.b2_text.proofs.members.add_member.Goals as goal

pub returns-then-number_stands_at-clause-items : goal.returns-then-number_stands_at-clause-items
returns-then-number_stands_at-clause-items c =
    let rank = subst (λ (n : ℕ). IsRankOf n c.args.numbers.now.items c.rank-i.result) c.from.ensures c.rank-i.ensures in
    standing c.args.n c.rank-i.result c.args.numbers.now.items rank c.requires.ordered (sym c.number_stands_at.ensures ∙ c.if-number_stands_at.true)

pub put_in-requires-clause-room : goal.put_in-requires-clause-room
put_in-requires-clause-room c =
    let rank = subst (λ (n : ℕ). IsRankOf n c.args.numbers.now.items c.rank-i.result) c.from.ensures c.rank-i.ensures in
    let more = longer c.args.n c.rank-i.result c.args.numbers.now.items rank c.requires.ordered (sym c.number_stands_at.ensures ∙ c.if-number_stands_at.false) in
    let room = c.requires.room in
    omega (arith, more, room)

pub returns-clause-items : goal.returns-clause-items
returns-clause-items c =
    let rank = subst (λ (n : ℕ). IsRankOf n c.args.numbers.now.items c.rank-i.result) c.from.ensures c.rank-i.ensures in
    c.put_in.ensures.items ∙ put_there c.args.n c.rank-i.result c.args.numbers.now.items rank c.requires.ordered (sym c.number_stands_at.ensures ∙ c.if-number_stands_at.false)
