use Rattle.std.proofs.Common.{rules, ◌≡◌, ◌+◌, take, IfSome}
use Rattle.b2_base.proofs.Fronts.{whole_front}
use Rattle.b2_base.proofs.real.read_whole.Goals as goal

-- src/real.rt:57:17
pub returns-then-len-limit-clause-all : goal.returns-then-len-limit-clause-all
returns-then-len-limit-clause-all g c =
    let front : IfSome (g.F.Read.remaining c.args.file) (λ xs. c.read_to_end.new.buf.items ≡ take (c.args.limit + 1) xs) = search rules in
    λ _. whole_front (g.F.Read.remaining c.args.file) c.args.limit c.read_to_end.new.buf.items front (search rules)
