use Rattle.b2_receiver.proofs.Reaching.{no_code_where_reached}
use Rattle.b2_receiver.proofs.laws.no_code_where_reached.Goals as goal

pub returns : goal.returns
returns c = no_code_where_reached
