use Rattle.std.proofs.Common.{◌≡◌, ◌+◌, ◌-◌, ◌%◌, true, false, arith, refl, sym, ap, ◌∙◌}
use Rattle.std.specs.Prelude.{is_some}
use Rattle.b2_platter.specs.Image.{index_of}
use Rattle.b2_catalog.specs.Ways.{lowest_free, place}
use Rattle.b2_catalog.proofs.Finding.{place_here, place_more}
use Rattle.b2_progfile.proofs.Making.{free-any}
use Rattle.b2_progfile.proofs.saving.has_slot.Goals as goal

pub loop-j-init : goal.loop-j-init
unfolding place
loop-j-init c = let none : index_of c.args.bytes.now - 0 ≡ index_of c.args.bytes.now = omega arith in rw (c.hash-first.ensures.value, c.index-index.ensures.value, none) refl

pub loop-j-preserved : goal.loop-j-preserved
loop-j-preserved c =
    let same = free-any c.args.bytes.now ((c.hash-first.result + c.loop-j.j) % c.index-index.result) in
    let full : is_some (lowest_free c.args.bytes.now ((c.hash-first.result + c.loop-j.j) % c.index-index.result)) ≡ false = cc in
    place_more (lowest_free c.args.bytes.now) c.hash-first.result c.index-index.result c.loop-j.j _ (omega arith) c.loop-j.invariant full

pub returns-then-has_free : goal.returns-then-has_free
returns-then-has_free c =
    let same = free-any c.args.bytes.now ((c.hash-first.result + c.loop-j.j) % c.index-index.result) in
    let has : is_some (lowest_free c.args.bytes.now ((c.hash-first.result + c.loop-j.j) % c.index-index.result)) ≡ true = cc in
    sym (ap is_some (sym (place_here (lowest_free c.args.bytes.now) c.hash-first.result c.index-index.result c.loop-j.j _ (omega arith) c.loop-j.invariant has)) ∙ has)
