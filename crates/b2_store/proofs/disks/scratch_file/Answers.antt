use Rattle.b2_store.proofs.DiskCalls.{scratch_done}
use Rattle.b2_store.proofs.disks.scratch_file.Goals as goal

pub returns-in-Ok-clause-ok : goal.returns-in-Ok-clause-ok
returns-in-Ok-clause-ok c = scratch_done c.args.p.now c.scratch.new.p c.args.name c.in-Ok.ensures.there c.in-Ok.ensures.image
