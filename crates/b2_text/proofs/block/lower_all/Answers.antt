use Rattle.std.proofs.Common.{◌∙◌, ap, set, get_or, arith}
use Rattle.std.proofs.lemmas.List.{get_or_default}
use Rattle.std.proofs.lemmas.List.Edits.{map_over_more}
use Rattle.b2_text.specs.Blocks.{lowered, no_place}
use Rattle.b2_text.proofs.block.lower_all.Goals as goal

pub loop-i-preserved : goal.loop-i-preserved
loop-i-preserved c =
    let here = get_or c.loop-i.places c.loop-i.i no_place in
    ap (set c.loop-i.places c.loop-i.i) c.lowered.ensures
    ∙ map_over_more (lowered c.args.by c.args.less) c.args.places.now c.loop-i.places c.loop-i.i here c.loop-i-test.true c.loop-i.invariant
    (get_or_default c.loop-i.places c.loop-i.i no_place here (omega arith))
