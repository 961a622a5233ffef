use Rattle.b2_rows.proofs.ChainRows.{each_chain_stands}
use Rattle.b2_rows.proofs.laws.each_chain_stands.Goals as goal

pub returns : goal.returns
returns c = each_chain_stands
