use Rattle.std.proofs.Common.{◌≡◌, ℕ, List, subst, arith}
use Rattle.b2_access.specs.Store.{content}
use Rattle.b2_access.specs.declared.objects.Object.TheVariants as object
use Rattle.b2_base.specs.Seen.{shelf_seen}
use Rattle.b2_boot.specs.declared.boot.BootPlatter.{BootPlatter}
use Rattle.b2_sched.specs.Start.{platter_addresses}
use Rattle.b2_mvp.specs.Outputs.{image, images_at, with_files}
use Rattle.b2_mvp.proofs.Images.{around, taken_more}
use Rattle.b2_mvp.proofs.Keeps.{device_fails, device_more}
use Rattle.b2_mvp.proofs.outputs.keep_images.Goals as goal

pub returns-in-Err-clause-err : goal.returns-in-Err-clause-err
returns-in-Err-clause-err g c =
    let seen = shelf_seen g.F.Shelf.files g.F.Shelf.faults g.F.Shelf.misses g.F.Shelf.longs in
    device_fails (λ (p : BootPlatter). p.address) (λ (a : List ℕ). image c.args.out.now a (content (g.S.Shared.store (g.S.Shared.meaning c.args.stores.now)) (object.Platter a))) _ _ c.args.platters.now c.platter-item.result
    (seen c.args.shelf.now) (seen c.loop-platter.shelf) (seen c.keep_image.new.shelf)
    c.in-Err.status (around c.args.platters.now c.loop-platter.platter-index c.platter-item.result c.loop-platter-test.true c.platter-item.is)
    c.loop-platter.invariant.kept c.loop-platter.invariant.faults c.in-Err.ensures.err

pub loop-platter-preserved : goal.loop-platter-preserved
loop-platter-preserved g c =
    record {
      kept =
          subst (λ (ps : List BootPlatter). g.F.Shelf.files c.keep_image.new.shelf ≡ with_files (images_at c.args.out.now (g.S.Shared.store (g.S.Shared.meaning c.args.stores.now)) (platter_addresses ps)) (g.F.Shelf.files c.args.shelf.now))
          (taken_more c.args.platters.now c.loop-platter.platter-index c.platter-item.result c.loop-platter-test.true c.platter-item.is)
          (device_more (λ (p : BootPlatter). p.address) (λ (a : List ℕ). image c.args.out.now a (content (g.S.Shared.store (g.S.Shared.meaning c.args.stores.now)) (object.Platter a))) _ c.platter-item.result _ _ _
          c.loop-platter.invariant.kept c.in-Ok.ensures.ok);
      faults = let more = c.keep_image.ensures.faults in let far = c.loop-platter.invariant.faults in omega arith;
    }
