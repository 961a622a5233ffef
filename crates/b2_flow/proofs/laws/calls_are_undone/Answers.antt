use Rattle.b2_flow.proofs.Calls.{call_found, call_undone}
use Rattle.b2_flow.proofs.laws.calls_are_undone.Goals as goal

pub returns : goal.returns
returns c = record { found = call_found; undone = call_undone }
