use Rattle.b2_audit.proofs.OwnWrites.{marked_in_parts}
use Rattle.b2_audit.proofs.laws.law_a_step_is_marked_in_parts.Goals as goal

pub returns : goal.returns
returns c = marked_in_parts
