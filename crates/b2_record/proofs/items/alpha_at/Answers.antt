use Rattle.b2_record.proofs.items.alpha_at.Goals as goal

pub returns-in_err-len-clause-none : goal.returns-in_err-len-clause-none
returns-in_err-len-clause-none c = rw c.from_residual.ensures (λ alpha rest low high lead same. c.in_err-len.ensures.none _ low high lead)
