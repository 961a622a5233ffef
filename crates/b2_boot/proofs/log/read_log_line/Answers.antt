use Rattle.std.proofs.Common.{sym, ◌∙◌}
use Rattle.b2_boot.proofs.LogSteps.{passes}
use Rattle.b2_boot.proofs.log.read_log_line.Goals as goal

pub returns-in-None-clause-holds : goal.returns-in-None-clause-holds
returns-in-None-clause-holds c = passes c.args.boot.now c.args.granted c.in-Asks.asked (sym c.in-None.is ∙ c.check_of_asked.ensures)
