use Rattle.b2_boot.proofs.LogBounds.{logs_keep_to_the_bound}
use Rattle.b2_boot.proofs.laws.law_a_log_keeps_to_the_bound.Goals as goal

pub returns : goal.returns
returns c = logs_keep_to_the_bound
