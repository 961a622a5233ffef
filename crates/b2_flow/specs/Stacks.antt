-- Lists of frames, the highest first: what each call finds and what it leaves.
use Rattle.std.specs.Prelude.{ℕ, nat_lt, length, Bool, List, [], ◌∷◌, Option, Some, None, if◌then◌else◌}
use Rattle.std.specs.List.{list_any, take_while}
use Rattle.b2_dec.specs.Number.{Number}
use Rattle.b2_flow.specs.declared.frame.Frame.{Frame}
use Rattle.b2_flow.specs.declared.frame.Frame.TheVariants.{For, Call}
use Rattle.b2_flow.specs.declared.frame.Place.{Place}
use Rattle.b2_flow.specs.declared.frame.Var2.{Var2}
use Rattle.b2_flow.specs.Frames.{is_loop, is_call, is_loop_of}

-- how many frames there may be
abbrev pub most_frames : ℕ
most_frames = 200

-- a list from its first item on that passes
abbrev pub from_first : {X : Type 0} → (X → Bool) → List X → List X
from_first passes [] = []
from_first passes (x ∷ xs) = if passes x then x ∷ xs else from_first passes xs

-- the loops above the nearest call, which belong to what runs
abbrev pub open_loops : List Frame → List Frame
open_loops frames = take_while is_loop frames

-- whether one of them counts a variable
abbrev pub has_loop : Var2 → List Frame → Bool
has_loop v frames = list_any (is_loop_of v) (open_loops frames)

-- the frames without those above the highest loop of a variable
abbrev pub from_loop : Var2 → List Frame → List Frame
from_loop v frames = from_first (is_loop_of v) frames

abbrev pub has_call : List Frame → Bool
has_call frames = list_any is_call frames

-- the frames without the loops above the nearest call
abbrev pub from_call : List Frame → List Frame
from_call frames = from_first is_call frames

-- the limit, the step and the body of the loop on top
abbrev pub top_loop : List Frame → Option (Number × Number × Place)
top_loop [] = None
top_loop (For v limit step body ∷ below) = Some (limit, step, body)
top_loop (Call back entered ∷ below) = None

-- without the loop on top; where no loop stands there, all as before
abbrev pub without_top_loop : List Frame → List Frame
without_top_loop [] = []
without_top_loop (frame ∷ below) = if is_loop frame then below else frame ∷ below

-- without the call on top; where no call stands there, all as before
abbrev pub without_top_call : List Frame → List Frame
without_top_call [] = []
without_top_call (frame ∷ below) = if is_call frame then below else frame ∷ below

-- the partition whose text the frame on top entered, where it is a call that did so
abbrev pub entered_on_top : List Frame → Option ℕ
entered_on_top [] = None
entered_on_top (For v limit step body ∷ below) = None
entered_on_top (Call back entered ∷ below) = entered

-- and the one whose text the nearest call entered
abbrev pub entered_last : List Frame → Option ℕ
entered_last frames = entered_on_top (from_call frames)

-- whether there is room for one more
abbrev pub has_room : List Frame → Bool
has_room frames = nat_lt (length frames) most_frames
