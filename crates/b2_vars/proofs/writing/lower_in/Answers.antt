use Rattle.std.proofs.Common.{◌∙◌, ap, set, get_or, arith}
use Rattle.std.proofs.lemmas.List.{get_or_default}
use Rattle.std.proofs.lemmas.List.Edits.{map_over_more}
use Rattle.b2_vars.specs.Block.{lowered}
use Rattle.b2_vars.proofs.writing.lower_in.Goals as goal

pub loop-i-preserved : goal.loop-i-preserved
loop-i-preserved c =
    ap (set c.loop-i.places c.loop-i.i) c.lowered.ensures
    ∙ map_over_more (lowered c.args.past c.args.by) c.args.places.now c.loop-i.places c.loop-i.i (get_or c.loop-i.places c.loop-i.i 0) (omega (arith, c.loop-i-test.true)) c.loop-i.invariant
    (get_or_default c.loop-i.places c.loop-i.i 0 (get_or c.loop-i.places c.loop-i.i 0) (omega arith))
