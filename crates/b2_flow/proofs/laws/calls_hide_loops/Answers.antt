use Rattle.b2_flow.proofs.Loops.{hidden}
use Rattle.b2_flow.proofs.laws.calls_hide_loops.Goals as goal

pub returns : goal.returns
returns c = hidden
