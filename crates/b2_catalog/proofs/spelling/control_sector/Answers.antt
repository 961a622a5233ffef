use Rattle.b2_catalog.proofs.Spelled.{control_made}
use Rattle.b2_catalog.proofs.spelling.control_sector.Goals as goal

pub returns : goal.returns
returns c = control_made c.args.layout c.args.used _ c.put_sector_number.ensures
