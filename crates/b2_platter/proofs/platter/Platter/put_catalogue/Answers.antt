use Rattle.std.proofs.Common.{◌<◌, arith, slice_index_or}
use Rattle.b2_platter.specs.Layout.{layout_of}
use Rattle.b2_platter.specs.Image.{total_of}
use Rattle.b2_platter.proofs.Goodness.{sectors_of_good}
use Rattle.b2_platter.proofs.platter.Platter.put_catalogue.Goals as goal

pub put_sectors-requires : goal.put_sectors-requires
put_sectors-requires c =
    λ k d h.
    let whole = sectors_of_good (layout_of c.self.inside.bytes.items) c.self.inside.bytes.items c.self.invariant in
    let below : (slice_index_or c.args.edits.now k d).0 < total_of (layout_of c.self.inside.bytes.items) c.self.inside.bytes.items = rw c.self.view_is (c.requires.in_range k d h) in
    rw c.deref_mut.ensures.value (omega (arith, whole, below))
