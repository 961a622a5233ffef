use Rattle.b2_alpha.proofs.Measuring.{value_of-padded}
use Rattle.b2_alpha.proofs.laws.padding_keeps_the_value.Goals as goal

pub returns : goal.returns
returns c = value_of-padded c.args.len c.args.bytes.now c.requires.some c.requires.fits
