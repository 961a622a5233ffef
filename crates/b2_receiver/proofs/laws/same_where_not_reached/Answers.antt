use Rattle.b2_receiver.proofs.Reaching.{same_where_not_reached}
use Rattle.b2_receiver.proofs.laws.same_where_not_reached.Goals as goal

pub returns : goal.returns
returns c = same_where_not_reached
