use Rattle.std.proofs.Common.{ℕ, List, ap, subst, ◌∙◌}
use Rattle.b2_base.specs.Seen.{shelf_seen, sink_seen}
use Rattle.b2_access.specs.Store.{StoreState}
use Rattle.b2_mvp.specs.Outputs.{outputs, with_files}
use Rattle.b2_status.specs.Puts.{PutEnds}
use Rattle.b2_mvp.proofs.Tops.{put_after}
use Rattle.b2_mvp.proofs.top.deliver.Goals as goal

pub returns : goal.returns
returns g c =
    let shelf = shelf_seen g.F.Shelf.files g.F.Shelf.faults g.F.Shelf.misses g.F.Shelf.longs in
    let sink = sink_seen g.O.Sink.written g.O.Sink.faults in
    put_after (outputs c.args.out.now c.args.boot.now c.args.ready.now.world.store) c.args.ready.now.line.items (shelf c.args.shelf.now) (shelf c.keep_outputs.new.shelf)
    (sink c.args.sink.now) (sink c.put_last.new.sink) c.put_last.result
    (c.in-Ok.ensures.ok ∙ ap (λ (store : StoreState). with_files (outputs c.args.out.now c.args.boot.now store) (g.F.Shelf.files c.args.shelf.now)) c.stores.ensures.value)
    (subst (λ (line : List ℕ). PutEnds line (sink c.args.sink.now) (sink c.put_last.new.sink) c.put_last.result) c.deref.ensures.value c.put_last.ensures)
