-- Frames that statements put on the stack.
use Rattle.std.specs.Prelude.{nat_lt, ◌∷◌, length, if◌then◌else◌}
use Rattle.b2_base.specs.declared.codes.TheConstants.{A04_TOO_DEEP}
use Rattle.b2_flow.specs.Stacks.{most_frames}
use Rattle.b2_flow.specs.declared.frame.Frame.{Frame}
use Rattle.b2_access.specs.declared.planned.Outcome.{Outcome}
use Rattle.b2_access.specs.declared.planned.Outcome.TheVariants as outcome
use Rattle.b2_access.specs.declared.private.Private.{Private}
use Rattle.b2_access.specs.Steering.{Steered, control_of, unsteered}

-- a frame on top; A04 where there is no room for it
abbrev pub with_frame : Frame → Outcome → Private → Steered
with_frame f goes me =
    if nat_lt (length me.stack) most_frames then record { work = record (control_of me) { stack = f ∷ me.stack }; outcome = goes }
    else unsteered me (outcome.Failed A04_TOO_DEEP)
