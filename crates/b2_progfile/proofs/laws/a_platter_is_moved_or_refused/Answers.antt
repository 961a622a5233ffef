use Rattle.b2_progfile.proofs.LiveFiles.{platter-fails, platter-moves}
use Rattle.b2_progfile.proofs.laws.a_platter_is_moved_or_refused.Goals as goal

pub returns : goal.returns
returns c = record { moved = platter-moves; refused = platter-fails }
