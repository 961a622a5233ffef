use Rattle.std.proofs.Common.{◌≡◌, ◌+◌, ◌%◌, true, false, arith, ◌∙◌}
use Rattle.std.specs.Prelude.{is_some}
use Rattle.b2_platter.specs.Image.{has_free}
use Rattle.b2_catalog.specs.Ways.{slot_in}
use Rattle.b2_catalog.proofs.Finding.{walk_here, walk_free, walk_more, hit_here, hit_free}
use Rattle.b2_catalog.proofs.lookup.slot_found.Goals as goal

pub loop-j-preserved : goal.loop-j-preserved
loop-j-preserved g c =
    let misses : is_some (slot_in c.args.bytes.now c.args.name.now ((c.hash-first.result + c.loop-j.j) % c.index-index.result)) ≡ false = cc in
    let full : has_free c.args.bytes.now ((c.hash-first.result + c.loop-j.j) % c.index-index.result) ≡ false = cc in
    rw c.tick.ensures (walk_more c.args.bytes.now c.args.name.now c.hash-first.result c.index-index.result c.loop-j.j c.loop-j.steps _ _ (omega arith) c.loop-j.invariant misses full)

pub returns-then-is_some : goal.returns-then-is_some
returns-then-is_some g c =
    let hit : is_some (slot_in c.args.bytes.now c.args.name.now ((c.hash-first.result + c.loop-j.j) % c.index-index.result)) ≡ true = cc in
    record {
      found = c.slot_in-here.ensures ∙ hit_here c.args.bytes.now c.args.name.now c.hash-first.result c.index-index.result c.loop-j.j c.loop-j.steps _ _ (omega arith) c.loop-j.invariant hit;
      ticks = c.tick.ensures ∙ walk_here c.args.bytes.now c.args.name.now c.hash-first.result c.index-index.result c.loop-j.j c.loop-j.steps _ _ (omega arith) c.loop-j.invariant hit;
    }

pub returns-then-has_free : goal.returns-then-has_free
returns-then-has_free g c =
    let misses : is_some (slot_in c.args.bytes.now c.args.name.now ((c.hash-first.result + c.loop-j.j) % c.index-index.result)) ≡ false = cc in
    let free : has_free c.args.bytes.now ((c.hash-first.result + c.loop-j.j) % c.index-index.result) ≡ true = cc in
    record {
      found = hit_free c.args.bytes.now c.args.name.now c.hash-first.result c.index-index.result c.loop-j.j c.loop-j.steps _ _ (omega arith) c.loop-j.invariant misses free;
      ticks = c.tick.ensures ∙ walk_free c.args.bytes.now c.args.name.now c.hash-first.result c.index-index.result c.loop-j.j c.loop-j.steps _ _ (omega arith) c.loop-j.invariant misses free;
    }
