use Rattle.b2_vars.proofs.NamesAsKeys.{names_total, names_exact}
use Rattle.b2_vars.proofs.laws.names_are_ordered.Goals as goal

pub returns : goal.returns
returns c = record { total = names_total; apart = names_exact }
