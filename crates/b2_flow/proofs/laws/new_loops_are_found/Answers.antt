use Rattle.b2_flow.proofs.Loops.{new_found, new_kept}
use Rattle.b2_flow.proofs.laws.new_loops_are_found.Goals as goal

pub returns : goal.returns
returns c = record { found = new_found; kept = new_kept }
