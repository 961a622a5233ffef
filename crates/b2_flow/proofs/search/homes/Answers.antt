use Rattle.std.specs.List.{list_any}
use Rattle.std.proofs.Common.{take, sym}
use Rattle.std.proofs.lemmas.List.Folds.{list_any_more}
use Rattle.b2_flow.proofs.HomeMask.{either_bit}
use Rattle.b2_flow.specs.Frames.{enters}
use Rattle.b2_flow.proofs.search.homes.Goals as goal

pub loop-frame-preserved : goal.loop-frame-preserved
loop-frame-preserved c = λ h low. rw (list_any_more (enters h) c.args.frames.now c.loop-frame.frame-index c.frame-item.result c.loop-frame-test.true)
    (either_bit (list_any (enters h) (take c.loop-frame.frame-index c.args.frames.now)) _ _ _ _ (c.loop-frame.invariant h low) (rw (sym c.frame-item.is) (c.entered-marks.ensures h low)))
