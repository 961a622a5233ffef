use Rattle.b2_flow.proofs.Loops.{no_call_dropped}
use Rattle.b2_flow.proofs.laws.loops_drop_no_call.Goals as goal

pub returns : goal.returns
returns c = no_call_dropped
