use Rattle.b2_matalpha.proofs.Receiving.{read_back}
use Rattle.b2_matalpha.proofs.laws.locators_are_read_back.Goals as goal

pub returns : goal.returns
returns c = read_back
