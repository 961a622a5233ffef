use Rattle.b2_catalog.specs.Catalogue.{catalogue}
use Rattle.b2_catalog.proofs.MadeFiles.{file-there}
use Rattle.b2_progfile.proofs.moving.enter_copy.Goals as goal

pub returns-clause-file : goal.returns-clause-file
returns-clause-file c = file-there (catalogue c.args.to.now) (catalogue c.enter.new.p) c.args.name c.enter.result c.enter.ensures.catalogue
