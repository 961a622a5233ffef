-- A frame on top of the stack, and none where there is no room.
use Rattle.std.proofs.Common.{◌≡◌, nat_lt, Bool, true, false, if◌then◌else◌, ◌∷◌, length, refl, sym}
use Rattle.b2_base.specs.declared.codes.TheConstants.{A04_TOO_DEEP}
use Rattle.b2_flow.specs.Stacks.{most_frames}
use Rattle.b2_flow.specs.declared.frame.Frame.{Frame}
use Rattle.b2_access.specs.declared.planned.Outcome.{Outcome}
use Rattle.b2_access.specs.declared.planned.Outcome.TheVariants as outcome
use Rattle.b2_access.specs.declared.private.Private.{Private}
use Rattle.b2_access.specs.Planning.{Ended}
use Rattle.b2_access.specs.Steering.{control_of, steered, unsteered}
use Rattle.b2_stmt.specs.Frames.{with_frame}

room_so : (b c : Bool) (f : Frame) (goes : Outcome) (me : Private) → b ≡ c
    → ◌≡◌ {A = Ended} (if b then record { me = record me { stack = f ∷ me.stack }; outcome = goes } else record { me = me; outcome = outcome.Failed A04_TOO_DEEP })
    (steered me (if c then record { work = record (control_of me) { stack = f ∷ me.stack }; outcome = goes } else unsteered me (outcome.Failed A04_TOO_DEEP)))
room_so true true f goes me is = refl
room_so true false f goes me is = cc
room_so false true f goes me is = cc
room_so false false f goes me is = refl

by_room : (b : Bool) (f : Frame) (goes : Outcome) (me : Private) → b ≡ nat_lt (length me.stack) most_frames
    → steered me (with_frame f goes me) ≡ (if b then record { me = record me { stack = f ∷ me.stack }; outcome = goes } else record { me = me; outcome = outcome.Failed A04_TOO_DEEP })
by_room b f goes me is = sym (room_so b _ f goes me is)

pub frame_put : (f : Frame) (goes : Outcome) (me : Private) → true ≡ nat_lt (length me.stack) most_frames → steered me (with_frame f goes me) ≡ record { me = record me { stack = f ∷ me.stack }; outcome = goes }
frame_put f goes me is = by_room true f goes me is

pub no_room : (f : Frame) (goes : Outcome) (me : Private) → false ≡ nat_lt (length me.stack) most_frames → steered me (with_frame f goes me) ≡ record { me = me; outcome = outcome.Failed A04_TOO_DEEP }
no_room f goes me is = by_room false f goes me is
