use Rattle.b2_base.specs.Seen.{shelf_seen}
use Rattle.std.proofs.Common.{◌+◌, ◌∙◌, subst, sym, take}
use Rattle.b2_mvp.specs.Inputs.{HasImage, HaveImages}
use Rattle.b2_mvp.proofs.Images.{have_more, left_good, one_unread}
use Rattle.b2_mvp.proofs.Tops.{later_again}
use Rattle.b2_mvp.proofs.inputs.read_images.Goals as goal

pub returns-in-Err-clause-err : goal.returns-in-Err-clause-err
returns-in-Err-clause-err g c =
    let seen = shelf_seen g.F.Shelf.files g.F.Shelf.faults g.F.Shelf.misses g.F.Shelf.longs in
    one_unread c.args.platters.now c.loop-platter.images.items c.loop-platter.platter-index c.platter-item.result (seen c.args.shelf.now) (seen c.loop-platter.shelf) (seen c.read_image.new.shelf)
    c.in-Err.status c.loop-platter-test.true c.platter-item.is c.loop-platter.invariant.have c.loop-platter.invariant.later c.loop-platter.invariant.same c.in-Err.ensures.err

pub loop-platter-preserved : goal.loop-platter-preserved
loop-platter-preserved g c =
    let seen = shelf_seen g.F.Shelf.files g.F.Shelf.faults g.F.Shelf.misses g.F.Shelf.longs in
    record {
      good = left_good c.args.platters.now c.loop-platter.platter-index c.platter-item.result c.loop-platter-test.true c.loop-platter.invariant.good;
      same = c.in-Ok.ensures.same ∙ c.loop-platter.invariant.same;
      later = later_again (seen c.args.shelf.now) (seen c.loop-platter.shelf) (seen c.read_image.new.shelf) c.loop-platter.invariant.later c.in-Ok.ensures.later;
      have =
          subst (λ images. HaveImages (g.F.Shelf.files c.args.shelf.now) (take (c.loop-platter.platter-index + 1) c.args.platters.now) images) (sym c.in-Ok-push.ensures.items)
          (have_more (g.F.Shelf.files c.args.shelf.now) c.args.platters.now c.loop-platter.images.items c.loop-platter.platter-index c.platter-item.result c.in-Ok.image c.loop-platter-test.true c.platter-item.is
          c.loop-platter.invariant.have (subst (λ files. HasImage files c.platter-item.result c.in-Ok.image) c.loop-platter.invariant.same c.in-Ok.ensures.ok));
    }
