use Rattle.std.proofs.Common.{◌*◌}
use Rattle.b2_dec.proofs.Factors.{product-code, product-fits}
use Rattle.b2_dec.proofs.products.product_part.Goals as goal

pub returns : goal.returns
returns c = product-code (c.args.x * c.args.y) (product-fits c.args.x c.args.y c.requires.first c.requires.second)
