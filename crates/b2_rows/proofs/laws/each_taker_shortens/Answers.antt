use Rattle.b2_rows.proofs.Lengths.{each_taker_shortens}
use Rattle.b2_rows.proofs.laws.each_taker_shortens.Goals as goal

pub returns : goal.returns
returns c = each_taker_shortens
