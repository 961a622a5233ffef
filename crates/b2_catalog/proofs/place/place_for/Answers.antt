use Rattle.std.proofs.Common.{◌≡◌, ◌+◌, ◌-◌, ◌%◌, true, false, arith, refl, ◌∙◌}
use Rattle.std.specs.Prelude.{is_some}
use Rattle.b2_platter.specs.Image.{index_of}
use Rattle.b2_catalog.specs.Ways.{lowest_free, place}
use Rattle.b2_catalog.proofs.Finding.{place_here, place_more}
use Rattle.b2_catalog.proofs.place.place_for.Goals as goal

pub loop-j-init : goal.loop-j-init
unfolding place
loop-j-init c = let none : index_of c.args.bytes.now - 0 ≡ index_of c.args.bytes.now = omega arith in rw (c.hash-first.ensures.value, c.index-index.ensures.value, none) refl

pub loop-j-preserved : goal.loop-j-preserved
loop-j-preserved c =
    let full : is_some (lowest_free c.args.bytes.now ((c.hash-first.result + c.loop-j.j) % c.index-index.result)) ≡ false = cc in
    place_more (lowest_free c.args.bytes.now) c.hash-first.result c.index-index.result c.loop-j.j _ (omega arith) c.loop-j.invariant full

pub returns-then-is_some : goal.returns-then-is_some
returns-then-is_some c =
    let has : is_some (lowest_free c.args.bytes.now ((c.hash-first.result + c.loop-j.j) % c.index-index.result)) ≡ true = cc in
    c.lowest_free-here.ensures ∙ place_here (lowest_free c.args.bytes.now) c.hash-first.result c.index-index.result c.loop-j.j _ (omega arith) c.loop-j.invariant has
