use Rattle.b2_vars.proofs.Costs.{cost-number, cost-alpha, cost-numbers, cost-alphas}
use Rattle.b2_vars.proofs.laws.costs_of_each_kind.Goals as goal

pub returns : goal.returns
returns c = record { number = cost-number; alpha = cost-alpha; numbers = cost-numbers; alphas = cost-alphas }
