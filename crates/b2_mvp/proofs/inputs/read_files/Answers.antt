use Rattle.b2_base.specs.Seen.{shelf_seen}
use Rattle.b2_mvp.proofs.Tops.{no_log}
use Rattle.b2_mvp.proofs.inputs.read_files.Goals as goal

pub returns-in-Err-read_log-clause-err : goal.returns-in-Err-read_log-clause-err
returns-in-Err-read_log-clause-err g c =
    let seen = shelf_seen g.F.Shelf.files g.F.Shelf.faults g.F.Shelf.misses g.F.Shelf.longs in
    no_log c.args.files c.in-Ok.boot (seen c.args.shelf.now) (seen c.read_boot.new.shelf) (seen c.read_log.new.shelf) c.in-Err-read_log.status
    c.read_boot.ensures.later c.read_boot.ensures.same c.in-Ok.ensures.ok c.in-Err-read_log.ensures.err
